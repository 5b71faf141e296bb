pub mod Lists
pub mod Opens
pub mod Locals
pub mod Calling
pub mod Switching
pub mod Wholes
pub mod Walks
