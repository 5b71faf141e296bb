pub mod Smaller
pub mod Applied
pub mod Order
pub mod Example
