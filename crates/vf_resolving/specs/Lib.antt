pub mod Standings
pub mod Cases
pub mod Assertions
