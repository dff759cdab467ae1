pub mod Drawing
pub mod Frames
pub mod Hosts
pub mod Lines
pub mod Newest
pub mod Prefixes
pub mod Showing
