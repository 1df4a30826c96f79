pub mod Accepted
pub mod Wider
pub mod Results
