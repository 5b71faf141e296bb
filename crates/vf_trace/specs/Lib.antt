pub mod Touching
pub mod Sights
pub mod Traces
