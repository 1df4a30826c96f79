pub mod Fields
pub mod Sealed
pub mod Rows
pub mod Meaning
pub mod Block
