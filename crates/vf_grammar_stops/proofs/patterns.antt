pub mod PatternsAlike
pub mod Stops
