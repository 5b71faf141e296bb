pub mod ChunksAlike
pub mod Stops
