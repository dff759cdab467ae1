pub mod Distances
pub mod Bodies
