pub mod Shares
pub mod Heads
pub mod Chunks
pub mod Heaps
