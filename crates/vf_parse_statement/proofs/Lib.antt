pub mod Heads
pub mod Sound
