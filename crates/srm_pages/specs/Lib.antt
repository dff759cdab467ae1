pub mod Board
pub mod Ends
pub mod Examples
pub mod Ink
pub mod Lane
pub mod Seats
