pub mod Calls
pub mod Faults
pub mod Files
pub mod Inner
pub mod Memory
