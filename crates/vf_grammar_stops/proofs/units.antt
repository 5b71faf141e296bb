pub mod Looks
pub mod ItemsAlike
pub mod Stops
