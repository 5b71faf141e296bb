pub mod Earlier
pub mod Kept
pub mod Lemmas
