pub mod Seats
pub mod Asking
pub mod Calls
pub mod Examples
