pub mod Continuing
pub mod Following
pub mod Ordering
pub mod Sessioned
pub mod Filling
pub mod Within
pub mod Retelling
pub mod Exactly
pub mod Counting
pub mod Rostered
mod RetellingExample
mod RefusingExample
