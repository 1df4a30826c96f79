pub mod Stopping
pub mod Covered
