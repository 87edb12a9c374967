pub mod Read
pub mod Right
pub mod Decided
