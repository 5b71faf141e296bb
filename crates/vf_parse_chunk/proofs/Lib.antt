pub mod Applied
pub mod ChunksRead
