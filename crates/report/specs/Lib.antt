pub mod Broken
pub mod Sheets
pub mod Report
pub mod Fault
