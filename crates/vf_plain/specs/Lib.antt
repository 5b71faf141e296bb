pub mod Identities
pub mod Units
