pub mod Grouped
pub mod Groups
pub mod Query
pub mod SetFunctions
pub mod Whole
pub mod WholeQuery
pub mod WorkedGroups
