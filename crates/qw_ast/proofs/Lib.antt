pub mod NestingLemmas
pub mod QuotedLemmas
pub mod StatementLemmas
