pub mod Lists
pub mod Eaten
pub mod Begins
pub mod Behind
pub mod SortsFull
pub mod TermsFull
