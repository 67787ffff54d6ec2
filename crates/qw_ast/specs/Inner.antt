-- What restates code for proofs. No public clause rests on it.
pub mod Quoted
pub mod Statements
