mod Snocs
mod GoingOn
mod Elements
mod Filing
mod Ending
mod Recorded
mod Making
mod Timers
mod Taken
mod Remade
pub mod Untold
mod Stopping
mod Beside
mod Beginning
mod RecordedExample
