pub mod Possible
pub mod Gaps
pub mod Orders
pub mod Retelling
pub mod Examples
