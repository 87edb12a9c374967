pub mod Seen
pub mod Look
pub mod Clear
pub mod Lent
pub mod Begun
