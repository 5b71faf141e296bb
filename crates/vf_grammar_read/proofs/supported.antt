pub mod Unseen
pub mod Clean
pub mod RealClean
pub mod GhostUnseen
pub mod StatementsClean
pub mod GhostItemsUnseen
pub mod UnitsClean
