pub mod AccessLemmas
pub mod AreaLemmas
pub mod BehavingLemmas
pub mod Chains
pub mod ColumnLemmas
pub mod FreeFacts
pub mod FreeSteps
pub mod LayoutLemmas
pub mod NoTrap
pub mod OpenRuns
pub mod ResultLemmas
pub mod ResultRows
pub mod RunRules
pub mod Separate
pub mod SharedCode
pub mod TurnFacts
pub mod TurnSteps
mod WorkedColumns
