pub mod Refined
pub mod CallOrder
pub mod Lemmas
pub mod Linked
