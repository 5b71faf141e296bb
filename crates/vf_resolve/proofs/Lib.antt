pub mod Wholes
pub mod Numbered
