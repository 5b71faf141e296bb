pub mod Extending
pub mod Units
