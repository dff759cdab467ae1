pub mod Decimals
pub mod Examples
pub mod Statuses
pub mod TookLines
