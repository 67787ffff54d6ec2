-- What restates code for proofs. No public clause rests on it.
pub mod Functions
pub mod Grouping
pub mod Literals
pub mod Queries
pub mod Sizes
pub mod Typing
