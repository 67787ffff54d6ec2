pub mod Flows
pub mod Lists
mod Tests
pub mod Writing
