pub mod Flats
pub mod Commands
pub mod Starts
pub mod Whole
