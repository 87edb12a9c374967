pub mod Look
pub mod Finish
pub mod Weigh
