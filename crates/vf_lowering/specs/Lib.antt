pub mod Units
pub mod Orders
