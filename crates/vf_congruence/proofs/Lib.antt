pub mod Meeting
pub mod Explained
