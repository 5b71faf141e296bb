pub mod Closing
pub mod Gained
pub mod Verdicts
