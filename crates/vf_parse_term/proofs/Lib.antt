pub mod Heads
pub mod Taken
pub mod Types
pub mod Lists
pub mod SortsRead
pub mod TermsRead
