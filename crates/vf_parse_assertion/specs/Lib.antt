pub mod Contents
pub mod Parsers
pub mod Laws
