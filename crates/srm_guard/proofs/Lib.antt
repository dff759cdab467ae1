mod Comparing
mod Guarding
mod Numbering
mod Sealing
mod Running
mod Receiving
mod Tagging
pub mod Reading
