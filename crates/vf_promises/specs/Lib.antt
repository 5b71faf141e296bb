pub mod TypeNames
pub mod Signatures
pub mod Meanings
pub mod Required
pub mod Lines
