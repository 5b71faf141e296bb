pub mod Simples
pub mod Statements
pub mod Starts
pub mod Whole
