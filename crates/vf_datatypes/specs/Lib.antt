pub mod Walking
pub mod NewNames
pub mod Arguments
pub mod Inhabited
pub mod Datatypes
