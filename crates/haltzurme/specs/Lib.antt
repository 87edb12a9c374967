pub mod Run
pub mod Recheck
pub mod Alike
