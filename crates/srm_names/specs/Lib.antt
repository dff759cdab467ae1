pub mod FullName
pub mod Histories
pub mod Names
pub mod Moments
pub mod Between
pub mod NameOrder
pub mod PageFeeds
pub mod Examples
