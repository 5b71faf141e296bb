pub mod Mentioned
pub mod RealText
pub mod GhostText
pub mod Bodies
pub mod Examples
