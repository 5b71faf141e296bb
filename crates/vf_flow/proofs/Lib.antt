pub mod Tables
pub mod Nodes
pub mod Making
pub mod Standing
