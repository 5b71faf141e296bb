pub mod Lists
pub mod Steps
pub mod Loops
pub mod Agreeing
