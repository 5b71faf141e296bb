pub mod Laws
pub mod Stripped
