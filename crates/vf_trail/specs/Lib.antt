pub mod Facts
pub mod Falls
pub mod Trail
