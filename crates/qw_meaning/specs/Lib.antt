pub mod Flow
pub mod From
pub mod Outcome
pub mod Query
pub mod Same
pub mod Select
pub mod WorkedQueries
