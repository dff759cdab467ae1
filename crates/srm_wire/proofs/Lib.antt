pub mod Dispatching
pub mod Fating
pub mod Telling
pub mod Wiring
