pub mod Rising
pub mod Order
