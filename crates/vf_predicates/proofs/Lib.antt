pub mod SameSorts
pub mod Coming
pub mod Heads
pub mod Wholes
pub mod Naming
