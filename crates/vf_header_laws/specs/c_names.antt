pub mod Parts
pub mod Lookups
pub mod Same
pub mod Types
pub mod Items
pub mod Units
pub mod Example
pub mod Clashes
