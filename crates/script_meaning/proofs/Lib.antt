pub mod Accepted
pub mod Said
pub mod Laws
pub mod Matching
pub mod Cases
pub mod Shift
