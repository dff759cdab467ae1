pub mod BoardRuns
pub mod BoardStatuses
pub mod Examples
pub mod Inks
pub mod PlaceExamples
pub mod Places
pub mod Shows
