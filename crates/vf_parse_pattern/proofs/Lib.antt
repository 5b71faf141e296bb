pub mod Lists
pub mod SharesRead
pub mod PatternsRead
