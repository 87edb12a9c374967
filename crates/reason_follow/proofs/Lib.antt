pub mod Crossing
pub mod Shown
pub mod Ways
pub mod Sweep
