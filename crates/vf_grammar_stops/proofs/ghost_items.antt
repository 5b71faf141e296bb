pub mod ClausesAlike
pub mod PartsAlike
pub mod ItemsAlike
pub mod Stops
