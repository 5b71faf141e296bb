pub mod Turns
pub mod Taken
