pub mod Windows
pub mod Parting
pub mod Steps
pub mod Highest
pub mod Going
pub mod Departing
pub mod Popping
mod Forbids
pub mod Mapping
pub mod Pausing
pub mod Paying
pub mod Admitting
pub mod AdmittingRead
