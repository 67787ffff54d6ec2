-- What restates code for proofs. No public clause rests on it.
pub mod Codes
pub mod Decoding
pub mod Followed
pub mod Imported
pub mod Indexed
pub mod Parts
pub mod Reader
pub mod Short
pub mod SoFar
pub mod Writer
pub mod Written
