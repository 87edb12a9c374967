pub mod Fields
pub mod Jobs
