pub mod Standing
pub mod Joining
pub mod Logging
pub mod Marking
pub mod Tops
pub mod Uniting
