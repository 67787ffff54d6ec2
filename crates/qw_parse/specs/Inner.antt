-- What restates code for proofs. No public clause rests on it.
pub mod Judges
pub mod Nests
pub mod Parser
pub mod Readers
pub mod Sizes
