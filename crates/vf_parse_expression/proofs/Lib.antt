pub mod Collected
pub mod Items
pub mod OperandsSound
pub mod Small
pub mod Sound
pub mod TypesSound
