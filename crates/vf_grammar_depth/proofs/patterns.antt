pub mod Never
pub mod Shares
pub mod Patterns
pub mod Whole
