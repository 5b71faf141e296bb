pub mod Definitions
pub mod Units
pub mod Erased
pub mod Laws
