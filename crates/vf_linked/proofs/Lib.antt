pub mod Members
pub mod CallOrder
pub mod Refined
pub mod Lemmas
pub mod Linked
