pub mod Heads
pub mod Plain
pub mod PartsRead
