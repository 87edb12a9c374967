pub mod Putting
pub mod Walking
pub mod Size
pub mod Telling
