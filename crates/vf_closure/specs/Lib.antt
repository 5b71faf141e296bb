pub mod Terms
pub mod Values
pub mod Literals
pub mod Closure
pub mod Laws
pub mod Made
pub mod Definitions
pub mod Examples
