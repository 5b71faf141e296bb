pub mod Knowing
pub mod Parts
