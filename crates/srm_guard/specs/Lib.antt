pub mod Tags
pub mod Seals
pub mod Guards
pub mod Runs
pub mod Receives
pub mod Examples
