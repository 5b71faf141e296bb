pub mod Beginning
pub mod Units
pub mod UnitFiles
