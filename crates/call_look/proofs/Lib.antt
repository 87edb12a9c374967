pub mod Ready
pub mod Clearing
