pub mod Parts
pub mod Translating
