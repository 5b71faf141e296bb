pub mod Types
pub mod Scopes
pub mod Beginning
pub mod Changes
pub mod Writing
