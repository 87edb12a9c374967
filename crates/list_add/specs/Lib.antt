pub mod State
pub mod Adding
pub mod Waking
pub mod Busy
pub mod Filing
pub mod Pace
