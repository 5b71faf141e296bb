pub mod Opening
pub mod Locals
pub mod Calls
pub mod Switches
pub mod Gives
pub mod IsRefused
pub mod Answers
pub mod Comes
