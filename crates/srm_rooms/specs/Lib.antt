pub mod InRoom
pub mod Joins
pub mod Made
pub mod RoomExamples
pub mod RoomLines
pub mod RoomStatuses
