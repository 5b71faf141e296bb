pub mod Offsets
pub mod Refuting
