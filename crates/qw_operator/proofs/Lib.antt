pub mod KnownLeaves
pub mod PairRows
pub mod Seen
pub mod Stood
pub mod ReadParts
pub mod Promised
pub mod Filters
pub mod LookupFeeds
pub mod EntryReads
pub mod Served
pub mod CarriedFeeds
pub mod NullEntries
pub mod OuterProbed
pub mod OperatorsFeed
pub mod ColumnReads
pub mod RowFeeds
pub mod GuardedFeeds
pub mod PipelineFeeds
pub mod SinkFeeds
pub mod WholeFeeds
pub mod TablePermuted
pub mod CarriedTyped
pub mod BuiltServes
pub mod Carried
pub mod OuterEmitted
pub mod CellSteps
mod ClearSteps
pub mod Computed
pub mod Conjuncts
pub mod Fronts
pub mod KeptReads
pub mod Knowing
pub mod Listed
pub mod Lookups
pub mod NestingSteps
pub mod Shortness
pub mod Sunk
pub mod Taken
pub mod FrontServes
mod GuardEmits
mod GuardedEmitted
mod StrictLemmas
pub mod FieldParts
pub mod GroupTyped
pub mod OneTyped
pub mod GroupSunk
pub mod GroupedFeeds
pub mod OneFeeds
mod GroupEmitted
mod PlainRows
pub mod Redeclared
pub mod RowCounted
pub mod LimitedFeeds
pub mod LimitedOne
pub mod GuardTyped
pub mod Unguarded
mod EndLemmas
