pub mod Numbered
pub mod Cases
pub mod Loops
pub mod Refusals
pub mod Some
