pub mod Words
pub mod Tests
