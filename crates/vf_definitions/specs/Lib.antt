pub mod Filled
pub mod Kept
pub mod Unfolded
pub mod Laws
