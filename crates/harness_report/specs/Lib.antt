pub mod Report
pub mod Fault
