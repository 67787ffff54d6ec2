pub mod Answered
mod Around
pub mod Conformed
pub mod CellsRead
mod FormLemmas
mod Locals
pub mod LongBehaves
pub mod ModuleCompiled
mod ModuleRuns
mod ModuleSpelled
mod ModuleValid
pub mod QueryBegins
pub mod QueryEnds
pub mod Refusals
pub mod ReturnRuns
pub mod RunWorlds
pub mod SeenTexts
