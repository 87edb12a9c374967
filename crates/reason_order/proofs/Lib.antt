pub mod Noting
pub mod Order
