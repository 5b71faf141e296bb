pub mod Accepted
pub mod Example
pub mod Parameters
pub mod Reading
