pub mod Rooms
pub mod Documents
pub mod Readings
pub mod Places
pub mod Putting
pub mod Examples
