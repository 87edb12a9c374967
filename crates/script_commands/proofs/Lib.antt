pub mod Asking
pub mod Making
