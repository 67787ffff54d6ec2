pub mod Columns
pub mod Inner
pub mod Node
pub mod Sizes
pub mod Tree
pub mod WorkedPlans
pub mod Written
