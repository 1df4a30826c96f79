pub mod Braking
pub mod KeptSpeed
pub mod Distance
