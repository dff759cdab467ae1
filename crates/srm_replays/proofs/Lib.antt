mod Ordered
mod Waits
mod Alike
mod Resting
mod Reading
mod Giving
mod Levels
mod Abreast
mod Twins
pub mod Replaying
pub mod Unseen
mod ReplayExample
pub mod Handed
