pub mod Counting
pub mod Ordering
pub mod Splitting
mod Weights
