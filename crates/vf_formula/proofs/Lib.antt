pub mod Comparing
pub mod Fractions
pub mod Merging
pub mod Calculating
pub mod Parts
pub mod Splitting
