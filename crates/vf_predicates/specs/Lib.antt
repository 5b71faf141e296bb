pub mod Bodies
pub mod Earlier
pub mod Predicates
pub mod Instances
