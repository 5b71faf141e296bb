pub mod AnnotatedUnits
pub mod ExpandedUnits
pub mod AnnotatedGhosts
pub mod ExpandedGhosts
