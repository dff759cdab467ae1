pub mod Sessions
pub mod Verdicts
pub mod Writers
pub mod Written
pub mod GivenExamples
