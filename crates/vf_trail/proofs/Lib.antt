pub mod Paths
pub mod Example
