pub mod Bytes
pub mod Fits
pub mod Laid
pub mod Broken
pub mod Fault
pub mod Known
pub mod Cases
