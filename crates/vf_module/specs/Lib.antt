pub mod Parsing
pub mod Readings
