pub mod Blocks
pub mod LikeBlocks
