mod Cores
mod Written
mod Functions
mod Lemmas
mod Ghosts
mod Items
mod Lists
pub mod Adding
mod Standing
mod Growth
mod Below
mod Ranked
mod Identities
mod Told
mod Numbers
pub mod Foretold
mod Tags
pub mod Reaching
pub mod Laws
pub mod UpTo
mod Example
mod Marked
