pub mod Paths
pub mod Steps
pub mod Matrices
pub mod Histories
