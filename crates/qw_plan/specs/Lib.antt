pub mod Pipes
pub mod Placed
pub mod Plan
pub mod Stages
pub mod Widths
pub mod WorkedSelects
