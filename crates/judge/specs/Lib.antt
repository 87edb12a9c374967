pub mod Ended
pub mod Going
pub mod Judging
pub mod Testing
