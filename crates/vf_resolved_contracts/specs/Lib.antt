pub mod Reading
pub mod Resolves
