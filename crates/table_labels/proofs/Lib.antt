pub mod Chain
pub mod Loops
pub mod Rows
pub mod Views
