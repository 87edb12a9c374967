pub mod Coming
pub mod Marking
pub mod Finding
pub mod Breaking
