pub mod Fits
pub mod One
pub mod Fault
pub mod Known
