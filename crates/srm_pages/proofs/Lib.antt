pub mod BoardSteps
pub mod Dealing
pub mod Feeds
pub mod InkSteps
pub mod LaneSteps
pub mod Shown
pub mod Taps
pub mod Views
