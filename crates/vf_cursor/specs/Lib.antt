pub mod Parsing
pub mod Types
