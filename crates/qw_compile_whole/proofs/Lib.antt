pub mod Beginnings
pub mod BehindFolds
pub mod ColumnSteps
pub mod ColumnTypes
mod CompiledMore
mod DistinctColumns
pub mod DistinctCompiled
pub mod DistinctEnds
pub mod DistinctTogether
mod DistinctWhole
pub mod EnterBounded
pub mod EnterPlaced
pub mod EnterPlacing
pub mod EnterStands
mod Finishes
pub mod FirstBounded
pub mod FoldedBehind
pub mod FoldedUnits
pub mod FrontCopies
pub mod FrontEnds
mod FrontLed
pub mod Gathered
pub mod GatheringLengths
pub mod GatheringPlaced
pub mod GroupBounded
mod GroupCore
mod GroupCosts
pub mod GroupEnds
mod GroupFew
mod GroupKept
mod GroupOnce
mod GroupPlanned
mod GroupReach
mod GroupRead
mod GroupShares
mod GroupTexts
mod GroupTold
mod GroupTotals
mod GroupTyped
mod GroupUtf8
mod GroupedFinished
mod GroupedPasses
pub mod GroupedPlacing
pub mod GroupedReady
pub mod GroupedStands
mod GroupedTyped
pub mod GuardedCompiled
pub mod GuardedFronts
mod HeldGroups
mod HeldRows
pub mod LongFronts
pub mod MadeOne
mod OnceCounted
pub mod OneDistinct
pub mod RunsInto
pub mod SeenBehind
pub mod ScanPlaced
pub mod ScanRuns
mod ShortDistinct
mod StatementParts
pub mod ShortGrouped
mod PlainDistinctFinished
mod PlainDistinctReady
pub mod SingleAlone
pub mod SingleBounded
pub mod SingleCompiled
mod SingleDistinct
pub mod SingleEnds
mod SingleKept
mod StatementAround
pub mod Taken
pub mod WalkFed
pub mod Walked
pub mod WalkedInto
mod WhichCounted
mod WholeBehind
mod WholeCompiled
mod WholeFinished
mod WholeKept
mod WholeLayouts
mod WholeOnce
pub mod Widened
pub mod FieldCounts
pub mod FirstTakenBounded
pub mod TakenFronts
pub mod SinglePlacing
pub mod SingleStands
mod SingleWhole
pub mod TakingLengths
pub mod TakingPlaced
