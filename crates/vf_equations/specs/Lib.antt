pub mod Switching
pub mod Values
pub mod Fixpoints
pub mod Answers
