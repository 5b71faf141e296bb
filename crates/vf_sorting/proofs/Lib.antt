pub mod Shapes
pub mod Below
pub mod Steps
pub mod Wholes
pub mod Checks
pub mod Lists
pub mod Spelled
