pub mod Taking
pub mod RoomSteps
pub mod SealSteps
