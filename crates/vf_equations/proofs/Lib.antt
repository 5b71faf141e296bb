pub mod Fronts
pub mod Giving
pub mod Wholes
