pub mod Summary
pub mod Word
