pub mod Blocks
pub mod ConstantBlocks
pub mod NullBlocks
pub mod TextBlocks
