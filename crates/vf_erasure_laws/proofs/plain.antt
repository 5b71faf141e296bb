pub mod Kept
pub mod RealKept
pub mod StatementsKept
pub mod UnitsKept
pub mod Nested
pub mod Stays
pub mod Read
