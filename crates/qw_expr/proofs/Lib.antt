mod Abbreviations
pub mod Binary
mod BoundsStay
mod Choices
mod ChoicesEmitted
mod Comparable
pub mod Comparisons
pub mod Connectives
mod Constants
mod Copies
pub mod Decisions
mod Emitted
mod Extents
mod GuardedTests
mod Guards
pub mod Junctions
pub mod JunctionsDecide
mod JunctionsEmitted
mod Kept
mod Leaves
pub mod Literals
mod Lookups
pub mod Nulls
mod NullTests
mod PlainTests
mod Related
mod Searches
mod SearchTests
mod Shared
mod Sought
mod Tests
mod TextDecisions
mod TreeChoices
mod Trees
mod TruthsEmitted
pub mod Unary
mod Unknowns
