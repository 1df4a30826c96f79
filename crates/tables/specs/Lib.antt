pub mod Bounds
pub mod Tables
pub mod Rules
pub mod Facts
