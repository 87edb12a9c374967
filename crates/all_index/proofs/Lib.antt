pub mod Filing
pub mod Slipping
pub mod Waiting
pub mod Views
pub mod Placing
pub mod Sweeping
