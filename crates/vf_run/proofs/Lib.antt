pub mod Sums
pub mod Counting
pub mod Effects
pub mod Steppers
pub mod Making
pub mod Taking
