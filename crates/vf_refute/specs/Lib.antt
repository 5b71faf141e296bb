pub mod Closure
pub mod Steps
pub mod Refutations
