pub mod Sound
pub mod SoundFacts
pub mod Calls
pub mod GrantFacts
pub mod Write
pub mod Examined
pub mod PositionFacts
