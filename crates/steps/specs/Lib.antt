pub mod Room
pub mod Left
