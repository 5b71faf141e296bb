pub mod Clauses
pub mod Parameters
pub mod Constructors
pub mod Fixpoints
pub mod ItemsFull
