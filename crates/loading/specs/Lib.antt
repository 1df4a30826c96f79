pub mod Load
pub mod Before
