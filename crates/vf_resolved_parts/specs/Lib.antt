pub mod Names
pub mod Truths
pub mod Patterns
pub mod Shares
pub mod Heads
pub mod Parts
