pub mod Turning
pub mod Telling
