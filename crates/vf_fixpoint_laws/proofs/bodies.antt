pub mod Closed
pub mod Resolved
pub mod Numbering
pub mod Symbols
pub mod Cases
pub mod Arguments
pub mod Patterns
pub mod Fronts
pub mod Bodies
pub mod Recursion
pub mod Taken
pub mod Units
pub mod Numbers
pub mod Applied
pub mod Defined
pub mod Expressions
mod Example
