pub mod Reading
pub mod Verdict
pub mod Acceptance
pub mod Results
