pub mod Counts
pub mod Examples
pub mod Fates
pub mod Flakiness
pub mod Networks
pub mod Wires
