pub mod CaseLemmas
pub mod Closing
pub mod ColumnLemmas
mod EvaluationLemmas
pub mod TypingLemmas
pub mod UnitsLemmas
