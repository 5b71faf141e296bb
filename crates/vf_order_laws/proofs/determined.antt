pub mod Phasing
pub mod Laws
