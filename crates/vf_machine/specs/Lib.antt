pub mod Machine
pub mod Effects
