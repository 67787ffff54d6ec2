pub mod Tables
pub mod Entries
pub mod Keys
pub mod Joins
pub mod Inner
pub mod Outer
