pub mod Pieces
pub mod Sorts
pub mod Terms
pub mod Laws
