pub mod Wides
pub mod Sums
pub mod Areas
pub mod Values
pub mod Groups
pub mod Walks
pub mod Single
pub mod Inner
