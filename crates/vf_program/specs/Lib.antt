pub mod Units
pub mod Programs
pub mod Renaming
pub mod Indexes
