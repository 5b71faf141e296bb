pub mod Shown
pub mod Resolution
