pub mod Laws
pub mod Parsers
