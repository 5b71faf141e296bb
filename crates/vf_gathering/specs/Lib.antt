pub mod Standing
pub mod Named
pub mod Told
pub mod Ahead
pub mod Foretold
