pub mod Meant
pub mod Saying
