pub mod Counting
pub mod Limited
pub mod Worked
