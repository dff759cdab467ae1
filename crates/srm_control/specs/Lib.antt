pub mod Line
pub mod Ends
pub mod Examples
