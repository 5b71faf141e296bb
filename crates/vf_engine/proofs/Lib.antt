pub mod Maps
pub mod Held
pub mod Counts
pub mod Shelves
pub mod Arguments
pub mod Placed
pub mod FreeNumbers
