pub mod Held
pub mod Back
pub mod Same
pub mod Writing
pub mod Told
