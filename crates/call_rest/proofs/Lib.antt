pub mod Finishing
pub mod Weighing
