pub mod Compared
pub mod Leaves
