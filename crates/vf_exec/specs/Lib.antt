pub mod Literals
pub mod Main
pub mod Small
