pub mod Merging
pub mod Going
pub mod Passing
