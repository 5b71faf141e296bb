pub mod Standing
pub mod Joining
