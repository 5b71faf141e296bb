pub mod Answering
pub mod Printing
pub mod Reading
pub mod Running
pub mod Uniting
