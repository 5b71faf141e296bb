pub mod Commands
pub mod Printed
pub mod Readings
pub mod Run
pub mod Safe
pub mod Verdict
