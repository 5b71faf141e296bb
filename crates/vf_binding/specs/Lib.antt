pub mod Bound
pub mod Patterns
pub mod Shares
pub mod Chunks
pub mod Answers
