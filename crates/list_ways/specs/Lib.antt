pub mod Halves
pub mod Rings
pub mod Adding
