pub mod Lists
pub mod Steps
pub mod Loops
pub mod Spelled
pub mod Parameters
pub mod Bases
pub mod Told
pub mod Values
