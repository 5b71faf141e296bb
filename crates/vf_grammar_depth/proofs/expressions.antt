pub mod Deeper
pub mod Begun
pub mod Types
pub mod TypeStarts
pub mod Expressions
pub mod Starts
pub mod Whole
pub mod Answers
