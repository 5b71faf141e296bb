pub mod Distances
pub mod Simplified
pub mod Journals
pub mod Entries
pub mod Histories
