pub mod EntrySizes
pub mod GroupRows
pub mod GrowingTables
pub mod LayoutLemmas
pub mod PermutedPlans
pub mod PermutedTables
pub mod PipeUnits
pub mod PlanBounds
pub mod PlanColumns
pub mod PlannedRows
pub mod ShareLemmas
mod TreeLayouts
pub mod WholeOrder
