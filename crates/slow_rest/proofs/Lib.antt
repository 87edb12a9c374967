pub mod Resting
pub mod Counting
