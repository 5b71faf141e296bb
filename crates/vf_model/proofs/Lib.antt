pub mod Machine
pub mod FreeBlocks
pub mod Equality
mod Examples
