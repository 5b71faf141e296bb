pub mod Walking
pub mod Answering
pub mod Staying
pub mod Stepping
pub mod Handing
