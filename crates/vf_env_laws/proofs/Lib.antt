pub mod Putting
pub mod Keeping
pub mod Statements
pub mod Heads
pub mod Functions
pub mod Ghosts
pub mod Lemmas
pub mod Laws
