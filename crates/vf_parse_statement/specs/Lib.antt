pub mod Annotations
pub mod Laws
pub mod NoGhosts
pub mod Parsers
