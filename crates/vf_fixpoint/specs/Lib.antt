pub mod Calls
pub mod Kept
pub mod Cases
pub mod Answers
