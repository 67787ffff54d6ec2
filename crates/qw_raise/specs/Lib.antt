pub mod Inner
pub mod Raise
pub mod Range
