pub mod Sums
pub mod Names
pub mod Symbols
pub mod Held
