pub mod Lists
pub mod Leading
pub mod Going
pub mod Based
pub mod Shifted
pub mod Followed
pub mod Asking
pub mod Finding
