pub mod Laws
pub mod Soundness
pub mod GrantFacts
pub mod PositionFacts
pub mod Refusals
pub mod EntryFacts
