pub mod Meeting
pub mod Deep
pub mod Holding
pub mod Posed
