-- What restates code for proofs. No public clause rests on it.
pub mod Checkers
pub mod Checking
pub mod Heights
pub mod Initial
pub mod Refusals
pub mod Runs
pub mod Walks
