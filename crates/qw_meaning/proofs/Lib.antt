pub mod FlowLemmas
pub mod FromLemmas
pub mod ListLemmas
mod OutcomeLemmas
pub mod RowLemmas
pub mod SameLemmas
pub mod SelectLemmas
