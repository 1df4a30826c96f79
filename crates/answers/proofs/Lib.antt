pub mod Answers
pub mod Refusals
