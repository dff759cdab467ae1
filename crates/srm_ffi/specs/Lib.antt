pub mod Codes
pub mod Shapes
pub mod Calls
pub mod Joins
pub mod Examples
