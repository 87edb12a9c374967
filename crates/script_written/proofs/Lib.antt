pub mod Fields
pub mod Tags
pub mod Written
