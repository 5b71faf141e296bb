mod Examples
pub mod DecimalLaws
pub mod Entries
pub mod Taken
