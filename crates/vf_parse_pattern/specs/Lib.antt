pub mod Shares
pub mod Patterns
pub mod Laws
