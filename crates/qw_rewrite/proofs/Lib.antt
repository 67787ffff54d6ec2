pub mod Arranged
pub mod Below
pub mod Grounds
pub mod Joins
pub mod Keys
pub mod LeftJoins
pub mod Lowest
pub mod Moved
pub mod Names
pub mod Once
pub mod OrderOfQuery
pub mod OrderProbes
pub mod Ordering
pub mod Pairs
pub mod PermutedRows
pub mod Probes
pub mod Probing
pub mod Rows
pub mod Sifting
pub mod Sized
pub mod Stages
pub mod Turned
mod Rewriting
mod Sizes
mod Taken
