pub mod Lists
pub mod UpTo
pub mod Defined
pub mod Adding
