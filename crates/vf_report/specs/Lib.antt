pub mod Lines
pub mod Loaded
pub mod Status
