pub mod Joined
pub mod Lines
pub mod MadeOf
pub mod Pushed
pub mod Written
