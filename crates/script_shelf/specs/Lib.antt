pub mod Chain
pub mod Columns
pub mod Keys
pub mod Shelf
pub mod Refusals
pub mod Items
pub mod Search
