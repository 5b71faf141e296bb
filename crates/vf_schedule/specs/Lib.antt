pub mod texts
pub mod rounds
