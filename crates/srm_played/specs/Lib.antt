pub mod Examples
pub mod Played
pub mod Plays
pub mod Statuses
