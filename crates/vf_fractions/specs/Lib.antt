pub mod Kept
pub mod Arithmetic
pub mod Laws
