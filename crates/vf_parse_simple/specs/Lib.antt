pub mod Laws
pub mod Simples
