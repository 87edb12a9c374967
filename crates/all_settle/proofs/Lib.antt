pub mod Views
pub mod Differing
pub mod Meeting
pub mod Passing
