pub mod Copies
pub mod Derivations
