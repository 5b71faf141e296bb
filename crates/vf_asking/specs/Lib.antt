pub mod Plain
pub mod Question
pub mod Whole
pub mod Journal
pub mod Course
pub mod Runs
pub mod Right
pub mod Faults
