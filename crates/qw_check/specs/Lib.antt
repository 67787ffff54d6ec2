pub mod Check
pub mod Inner
