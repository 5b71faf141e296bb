pub mod Statements
pub mod Least
pub mod Refusals
pub mod Linking
pub mod Marks
