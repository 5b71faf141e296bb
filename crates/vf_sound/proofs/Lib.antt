pub mod Allowing
pub mod Runs
pub mod Endings
pub mod Shares
pub mod Linking
mod Sums
mod Bodies
mod Deciding
mod Steps
mod Keeping
pub mod Accepted
mod Worked
