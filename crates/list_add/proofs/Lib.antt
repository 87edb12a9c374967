pub mod Wakes
pub mod Seeks
pub mod Turns
pub mod Looks
pub mod Adds
pub mod Files
