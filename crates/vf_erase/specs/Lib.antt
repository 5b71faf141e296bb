pub mod Shown
pub mod Counting
