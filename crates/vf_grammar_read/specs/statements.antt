pub mod Annotations
pub mod Laws
