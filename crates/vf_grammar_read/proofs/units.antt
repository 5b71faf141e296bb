pub mod Answered
pub mod GhostItems
pub mod Signatures
pub mod UnitFull
