pub mod Items
pub mod Reading
pub mod Standing
pub mod Numbers
pub mod Wrong
