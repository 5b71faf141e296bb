pub mod Searched
pub mod Rounds
pub mod Walked
pub mod Codes
