pub mod Marks
pub mod Order
pub mod Walked
pub mod Statements
pub mod Ordered
