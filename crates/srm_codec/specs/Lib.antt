pub mod Spelling
pub mod Judging
pub mod Reading
pub mod Laws
pub mod Examples
