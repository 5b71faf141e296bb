pub mod Results
pub mod Usable
pub mod Fits
pub mod Takes
pub mod Merges
pub mod Reads
pub mod Laws
pub mod Examples
