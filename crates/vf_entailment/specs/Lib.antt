pub mod Meant
pub mod Facts
pub mod Trees
pub mod Laws
pub mod Example
