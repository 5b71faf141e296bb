pub mod Interned
pub mod Codes
