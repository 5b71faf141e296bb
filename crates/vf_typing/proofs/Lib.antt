pub mod Lists
pub mod Signatures
pub mod Loops
pub mod Calls
pub mod Gives
pub mod Sound
pub mod Agree
