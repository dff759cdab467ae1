pub mod Requesting
pub mod Handing
pub mod Spelling
