pub mod Safe
pub mod Laws
pub mod GhostLaws
pub mod ArrayLaws
pub mod LeakLaws
pub mod ElementLaws
