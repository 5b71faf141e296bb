pub mod Allowed
pub mod Decided
pub mod Environment
pub mod Examples
pub mod Formed
pub mod Laws
pub mod Shares
