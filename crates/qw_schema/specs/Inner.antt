-- What restates code for proofs. No public clause rests on it.
pub mod Faults
pub mod Judges
pub mod Parser
pub mod Tables
pub mod Written
