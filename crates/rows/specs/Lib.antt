pub mod AreaA
pub mod Table
