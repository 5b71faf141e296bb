pub mod Lists
pub mod Steps
pub mod Loops
pub mod Families
pub mod Constructors
pub mod Fixpoints
