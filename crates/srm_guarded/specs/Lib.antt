pub mod Guarding
pub mod Keying
pub mod Examples
