pub mod Finish
pub mod Weigh
