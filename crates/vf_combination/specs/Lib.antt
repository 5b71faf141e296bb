pub mod Exchanged
pub mod Combined
pub mod Settled
