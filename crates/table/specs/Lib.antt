pub mod Places
pub mod Map
pub mod Past
