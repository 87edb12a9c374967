pub mod Shown
pub mod Ways
pub mod Tracing
pub mod Walking
