pub mod Naming
pub mod Preserved
pub mod Files
pub mod Expanded
pub mod Example
pub mod Laws
