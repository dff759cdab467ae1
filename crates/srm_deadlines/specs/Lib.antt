pub mod Places
pub mod PlacesOf
pub mod Deadlines
pub mod Least
pub mod MomentLists
pub mod Agenda
pub mod Examples
