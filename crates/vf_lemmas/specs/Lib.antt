pub mod Depths
pub mod Shares
pub mod Proves
pub mod Laws
pub mod Calls
pub mod Openings
