pub mod Calls
pub mod Runs
pub mod Where
pub mod Claim
pub mod Ways
pub mod Stays
pub mod Replies
