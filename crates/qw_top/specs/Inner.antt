-- What restates code for proofs. No clause of the call rests on it.
pub mod Causes
pub mod Inputs
pub mod Noted
pub mod Queries
pub mod Reports
pub mod Shelves
pub mod Sinks
pub mod Stages
pub mod Stop
pub mod Tables
pub mod WholeFiles
