pub mod Seen
pub mod Unseen
pub mod Laws
