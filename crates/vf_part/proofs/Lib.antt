pub mod Reading
pub mod Taken
pub mod Refused
pub mod Deep
