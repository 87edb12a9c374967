pub mod Cleared
pub mod Places
