pub mod Lowest
pub mod Dividing
pub mod Quotients
