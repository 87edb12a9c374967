pub mod Own
pub mod Plain
