pub mod Worlds
pub mod Walks
pub mod Weights
pub mod Steps
pub mod Wholes
pub mod Remembered
