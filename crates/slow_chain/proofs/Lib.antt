pub mod Chain
pub mod Views
pub mod Rows
