pub mod Wholes
pub mod Orders
