pub mod FlatRead
pub mod CaseHeads
pub mod CommandsRead
