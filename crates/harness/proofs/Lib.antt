pub mod Ran
pub mod Rechecked
pub mod One
pub mod Passing
