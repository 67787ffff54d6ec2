pub mod Exact
pub mod Tees
pub mod Writing
