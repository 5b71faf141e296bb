pub mod Ranks
pub mod Laws
pub mod Example
pub mod Marked
