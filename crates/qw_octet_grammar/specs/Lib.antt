pub mod Grammar
pub mod Inner
pub mod Numbers
pub mod Reading
pub mod Vectors
pub mod Writing
