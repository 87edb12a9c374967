pub mod Meant
pub mod Says
