pub mod Loading
pub mod Fresh
pub mod Before
