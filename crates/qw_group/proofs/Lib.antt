pub mod WideFacts
pub mod WideRuns
pub mod QuotientRuns
pub mod DigitRuns
pub mod AverageRuns
mod SumClauses
pub mod AreaFrames
pub mod TakenFacts
mod AreaSteps
mod SumAreaRuns
mod ChosenRuns
pub mod AreaRuns
pub mod AreaClauses
mod AddedSteps
pub mod ValueRuns
mod ValueClauses
pub mod KeyFacts
pub mod EntryAreas
pub mod FindRuns
pub mod PlaceRuns
pub mod GroupRuns
pub mod GroupFeeds
pub mod GroupClauses
mod GroupStepsAdded
pub mod WalkRuns
pub mod WalkClauses
pub mod BegunGroups
pub mod SingleRuns
