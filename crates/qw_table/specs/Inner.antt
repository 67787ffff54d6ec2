pub mod Blocks
pub mod KeyBlocks
pub mod GuardSteps
