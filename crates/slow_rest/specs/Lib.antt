pub mod Counted
pub mod Rest
