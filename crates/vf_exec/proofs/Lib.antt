pub mod Bodies
pub mod Comparing
pub mod Steps
pub mod Sums
