pub mod Ordering
pub mod Placing
pub mod Runs
pub mod Stages
pub mod Widths
