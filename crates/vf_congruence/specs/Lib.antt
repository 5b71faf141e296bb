pub mod Congruence
pub mod Meeting
pub mod Explained
