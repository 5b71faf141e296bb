pub mod Closure
pub mod Refutations
pub mod Posed
pub mod Laws
