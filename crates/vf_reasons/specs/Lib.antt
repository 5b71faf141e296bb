pub mod Shifts
pub mod Drafts
pub mod Follows
