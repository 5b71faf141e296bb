pub mod Rounds
pub mod Logs
