pub mod walk
pub mod determined
