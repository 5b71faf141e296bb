pub mod Lists
pub mod Parts
pub mod Nodes
pub mod Back
pub mod Loops
