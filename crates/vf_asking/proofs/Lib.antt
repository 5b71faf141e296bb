pub mod Testing
pub mod Seeing
pub mod Kept
pub mod Following
pub mod Determined
