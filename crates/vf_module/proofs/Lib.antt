pub mod Parses
pub mod Passing
