pub mod Laws
pub mod KeptSpeed
