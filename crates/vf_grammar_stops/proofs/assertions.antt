pub mod AssertionsAlike
pub mod Stops
