pub mod AllLaws
pub mod GrammarLaws
pub mod Loops
mod NumberFacts
mod WriteFacts
pub mod WriteLaws
