pub mod Local
pub mod TypesAlike
pub mod LoopAlike
