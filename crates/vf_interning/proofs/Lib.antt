pub mod Stable
pub mod Told
pub mod Adding
pub mod Parts
pub mod Meaning
pub mod Deciding
pub mod Levels
