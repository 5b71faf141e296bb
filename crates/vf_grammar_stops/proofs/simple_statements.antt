pub mod SimplesAlike
pub mod Stops
