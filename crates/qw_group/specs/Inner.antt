pub mod WideBlocks
pub mod ValueBlocks
pub mod GroupSteps
