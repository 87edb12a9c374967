pub mod Summary
pub mod Turns
