pub mod FilesRead
pub mod Refused
pub mod Worded
