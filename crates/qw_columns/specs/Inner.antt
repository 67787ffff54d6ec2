pub mod Map
pub mod Reading
pub mod Writing
