pub mod Names
pub mod Laws
pub mod Example
pub mod Macro
pub mod Accepted
