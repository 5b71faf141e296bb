pub mod Pieces
pub mod Sorts
pub mod Terms
pub mod Starts
pub mod Whole
