pub mod Decimals
pub mod Inputs
pub mod Newest
pub mod Rosters
pub mod Shown
