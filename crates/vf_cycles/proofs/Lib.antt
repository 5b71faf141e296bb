pub mod Lists
pub mod Ways
pub mod Ranks
pub mod Walking
pub mod Components
