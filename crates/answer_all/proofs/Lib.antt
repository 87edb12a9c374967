pub mod Midway
pub mod Whole
