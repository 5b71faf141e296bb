pub mod Refused
pub mod Pieces
pub mod SortsAlike
pub mod TermsAlike
pub mod Stops
