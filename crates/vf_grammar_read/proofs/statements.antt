pub mod GhostEaten
pub mod Begins
pub mod Parts
pub mod StmtFull
