pub mod Order
pub mod Numbers
pub mod Worth
pub mod Kept
pub mod Stay
pub mod Reached
pub mod Compared
