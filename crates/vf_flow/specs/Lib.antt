pub mod Leads
pub mod Tables
pub mod Shown
pub mod Steps
pub mod Named
pub mod Laws
