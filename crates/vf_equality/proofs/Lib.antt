pub mod Plain
pub mod Asking
pub mod Rows
