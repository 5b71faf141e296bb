pub mod Reaching
pub mod Closing
