pub mod Bytes
pub mod Numbers
pub mod Punctuators
pub mod Pieces
pub mod Tokens
pub mod Spellings
pub mod Cuts
