pub mod Values
pub mod Facts
pub mod Trees
pub mod Entailing
pub mod Example
