pub mod Becoming
pub mod Rooms
