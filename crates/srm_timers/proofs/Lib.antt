pub mod Arming
pub mod Fitting
pub mod TimerSteps
pub mod AskSteps
pub mod FixSteps
pub mod Marking
pub mod Starting
