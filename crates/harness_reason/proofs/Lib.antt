pub mod Answering
pub mod Plain
