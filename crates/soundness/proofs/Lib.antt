pub mod Laws
pub mod Taken
pub mod Allocations
