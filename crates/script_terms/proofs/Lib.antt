pub mod Tests
pub mod Lists
pub mod Known
pub mod Worth
pub mod Alike
pub mod Terms
pub mod Script
pub mod Promise
