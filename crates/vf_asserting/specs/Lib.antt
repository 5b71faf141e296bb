pub mod Leaving
pub mod Cases
pub mod Switches
pub mod Gives
pub mod IsRefused
pub mod Answers
