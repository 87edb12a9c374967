pub mod Seeking
pub mod Filling
pub mod Loading
pub mod Handing
