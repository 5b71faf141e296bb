pub mod Alike
pub mod Covering
pub mod Placing
pub mod Having
pub mod Before
pub mod Naming
pub mod Operating
pub mod Reading
pub mod Telling
pub mod Values
mod Example
