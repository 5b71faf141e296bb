pub mod Heads
pub mod Up
pub mod Down
