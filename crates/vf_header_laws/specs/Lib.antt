pub mod included
pub mod c_names
pub mod expanded
pub mod ghost_names
