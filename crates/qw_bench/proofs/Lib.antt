mod Answering
mod BenchStart
mod BenchTurns
mod FirstPages
mod FirstSeatLemmas
mod FreeCounts
mod FreeLemmas
mod GivingBack
mod LayoutLemmas
mod LimitLemmas
mod MapLemmas
mod PoolLemmas
mod Rounds
mod SeatRuns
mod SeatSteps
pub mod Serving
pub mod Starting
mod SteadyTurns
pub mod Unreleased
