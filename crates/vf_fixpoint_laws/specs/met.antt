pub mod Laws
pub mod Valued
pub mod Endless
pub mod Units
