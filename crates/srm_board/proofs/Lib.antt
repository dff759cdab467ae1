pub mod BoardRuns
pub mod Served
pub mod Showing
