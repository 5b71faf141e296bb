pub mod Rows
pub mod Codes
pub mod Fractions
pub mod Heads
pub mod Linears
pub mod Literals
pub mod Shares
