pub mod Numbered
pub mod Commas
pub mod Walks
