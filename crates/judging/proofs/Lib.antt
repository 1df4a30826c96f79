pub mod Header
pub mod Sized
