pub mod Fixpoints
pub mod Laws
pub mod Example
