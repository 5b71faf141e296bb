pub mod Sound
pub mod Alike
pub mod Reading
pub mod Growing
pub mod Following
pub mod Turns
pub mod Coming
