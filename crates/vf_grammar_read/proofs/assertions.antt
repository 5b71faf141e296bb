pub mod Ends
pub mod Eaten
pub mod Values
pub mod Contents
pub mod Operands
pub mod Parts
pub mod AssertionsFull
