pub mod Sorts
pub mod Told
pub mod Codes
pub mod Unknowns
pub mod Fillers
pub mod Pairs
pub mod Unifying
pub mod Laws
