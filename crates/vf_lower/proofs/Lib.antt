pub mod Parts
pub mod Places
pub mod Lists
pub mod Calls
pub mod Loops
