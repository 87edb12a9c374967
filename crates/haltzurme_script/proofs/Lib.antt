pub mod Clearing
pub mod One
pub mod Promise
