pub mod Behind
pub mod Passing
