pub mod Wild
pub mod SharesFull
pub mod PatternsFull
