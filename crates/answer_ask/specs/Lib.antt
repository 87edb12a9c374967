pub mod Facing
pub mod Right
