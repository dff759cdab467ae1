pub mod Boards
pub mod Examples
pub mod MemberNames
pub mod NameExamples
pub mod Options
