pub mod Lists
pub mod Steps
pub mod Applied
pub mod Parts
pub mod Pointed
