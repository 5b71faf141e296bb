pub mod Operands
pub mod ChunksFull
