pub mod Examples
pub mod Statuses
