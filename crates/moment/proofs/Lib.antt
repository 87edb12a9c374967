pub mod Deep
pub mod Steps
pub mod Kept
pub mod Known
pub mod Moments
