pub mod Named
pub mod Trees
pub mod Noted
pub mod Described
