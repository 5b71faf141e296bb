pub mod Walking
pub mod Meanings
pub mod Statements
pub mod Names
pub mod Items
pub mod Agreeing
