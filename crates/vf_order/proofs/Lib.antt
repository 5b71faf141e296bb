pub mod Lists
pub mod Sums
pub mod Loops
pub mod Pairs
pub mod Ordered
