pub mod Named
pub mod Keeping
pub mod Rows
pub mod Worth
pub mod Given
pub mod Soundness
