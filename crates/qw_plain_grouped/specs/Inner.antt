pub mod Evaluable
pub mod Flows
pub mod Outcomes
