pub mod Same
pub mod Leading
pub mod Lookups
mod Laws
