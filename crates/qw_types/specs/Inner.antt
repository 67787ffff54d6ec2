-- What restates code for proofs. No public clause rests on it.
pub mod Like
pub mod Numeral
