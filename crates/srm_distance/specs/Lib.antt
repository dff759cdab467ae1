pub mod Calls
pub mod Distance
pub mod Echoes
pub mod Peers
pub mod Content
pub mod Fits
pub mod Examples
