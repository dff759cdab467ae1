pub mod Reading
pub mod Sealing
pub mod Joining
pub mod Examples
