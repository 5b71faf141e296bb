pub mod Inside
pub mod Parts
pub mod Clauses
pub mod Items
pub mod Whole
