pub mod Linear
pub mod Memory
