pub mod Spared
pub mod Lowered
pub mod LongRuns
pub mod TypedTwice
pub mod LimitedFeeds
pub mod CountedBlocks
