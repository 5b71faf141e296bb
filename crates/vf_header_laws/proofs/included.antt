pub mod Files
pub mod Numbers
pub mod Lines
pub mod Headers
pub mod Units
