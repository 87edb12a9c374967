pub mod Ready
pub mod Profile
pub mod Finishing
pub mod Weighing
