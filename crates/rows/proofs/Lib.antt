pub mod AreaA
pub mod Rows
