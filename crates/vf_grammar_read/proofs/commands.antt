pub mod Sorts
pub mod Begins
pub mod Flats
pub mod CommandsFull
