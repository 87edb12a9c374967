pub mod Written
pub mod Listing
