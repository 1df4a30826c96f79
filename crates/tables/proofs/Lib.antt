pub mod Consistency
pub mod Distance
pub mod Routes
