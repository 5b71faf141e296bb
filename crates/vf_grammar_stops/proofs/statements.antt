pub mod StmtAlike
pub mod Stops
