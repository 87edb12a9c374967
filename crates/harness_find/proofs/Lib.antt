pub mod Places
pub mod Trying
pub mod Scanning
pub mod Looking
pub mod Tracing
