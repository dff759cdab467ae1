pub mod Steps
pub mod Collecting
pub mod Table
