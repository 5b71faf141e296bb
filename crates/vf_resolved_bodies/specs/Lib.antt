pub mod Telling
pub mod Invariants
pub mod Statements
pub mod Bodies
