pub mod Onward
pub mod Marked
pub mod Larger
pub mod Standing
pub mod Levels
