pub mod Flats
pub mod Commands
pub mod Laws
