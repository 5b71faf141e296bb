pub mod Truths
pub mod Shown
pub mod Laws
pub mod Examples
