pub mod Symbols
pub mod Bodies
pub mod Fixpoints
pub mod UpTo
pub mod Units
