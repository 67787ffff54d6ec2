pub mod InRows
pub mod Spelling
