pub mod Came
pub mod Marks
pub mod Found
pub mod Breaking
