pub mod Numbered
pub mod Tabled
pub mod Questions
pub mod Plain
pub mod Unfolded
pub mod Ends
