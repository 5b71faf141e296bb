pub mod Holdings
pub mod Paths
pub mod Entries
