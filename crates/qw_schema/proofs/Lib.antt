mod DeclareLemmas
mod FormLemmas
mod GrammarLemmas
mod JudgeLemmas
mod ListLemmas
mod LiteralLemmas
mod NameLemmas
pub mod SchemaLemmas
mod TableLemmas
mod TerminalLemmas
