pub mod Core
pub mod Shown
