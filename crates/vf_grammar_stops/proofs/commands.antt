pub mod FlatsAlike
pub mod CommandsAlike
pub mod Stops
