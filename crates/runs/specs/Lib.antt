pub mod Script
pub mod Ran
pub mod Spelled
