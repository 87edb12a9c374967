pub mod Rules
pub mod Stands
