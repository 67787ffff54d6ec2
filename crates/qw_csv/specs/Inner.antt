-- What restates code for proofs. No public clause rests on it.
pub mod Loading
pub mod Place
pub mod Rows
pub mod Storage
pub mod Wide
