pub mod Standing
pub mod Merging
pub mod Finding
