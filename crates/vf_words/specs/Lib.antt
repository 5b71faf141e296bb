pub mod Given
pub mod Positionals
pub mod Reader
pub mod Words
pub mod Commands
