pub mod Chains
pub mod Columns
pub mod Keys
pub mod Pushes
pub mod Seeking
pub mod Faults
pub mod Searching
