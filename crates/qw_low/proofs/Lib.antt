pub mod Appended
pub mod BeginLemmas
pub mod BlockSteps
mod Calls
pub mod CellLemmas
pub mod CodeSize
pub mod CodeTyped
mod Countdown
pub mod ExactSteps
pub mod ExpressionRuns
mod FuelLemmas
pub mod Grants
pub mod KeepStep
pub mod Lengths
pub mod LessKnown
pub mod OpenOutcomes
pub mod Paths
mod PageUse
pub mod PromisedRuns
pub mod Promises
pub mod QuietRuns
pub mod RefusedOnce
pub mod Results
pub mod Standing
pub mod StatementRuns
mod StepsFit
mod StepsNumbered
mod StepsWritten
mod Tees
mod TeesNumbered
mod TeesWritten
