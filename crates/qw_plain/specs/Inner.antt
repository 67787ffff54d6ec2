pub mod Evaluable
pub mod Flows
