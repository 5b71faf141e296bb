pub mod Dividing
pub mod Merged
pub mod Ratios
