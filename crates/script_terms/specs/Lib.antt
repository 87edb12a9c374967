pub mod Terms
pub mod Flat
pub mod Promise
