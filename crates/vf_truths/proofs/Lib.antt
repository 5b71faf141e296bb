pub mod Bared
pub mod Meant
