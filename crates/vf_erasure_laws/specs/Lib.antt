pub mod seen
pub mod hidden
pub mod plain
pub mod erased
