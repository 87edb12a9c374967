pub mod Closing
pub mod Copying
