pub mod values
pub mod bodies
pub mod definable
pub mod well_declared
pub mod descending
pub mod identifiers
pub mod accepted
pub mod met
