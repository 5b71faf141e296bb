pub mod Copied
pub mod Running
pub mod Deriving
pub mod Ending
pub mod Passes
