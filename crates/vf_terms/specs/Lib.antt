pub mod Settings
pub mod Named
pub mod Operated
pub mod Readings
