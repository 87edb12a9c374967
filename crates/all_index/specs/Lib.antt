pub mod Filing
pub mod Waiting
pub mod State
