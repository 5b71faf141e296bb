pub mod Lists
pub mod Beside
pub mod Describing
