pub mod Erasure
pub mod Walks
pub mod WalkedUnits
pub mod Units
