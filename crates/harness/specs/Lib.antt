pub mod Run
pub mod Recheck
