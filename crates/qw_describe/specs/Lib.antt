pub mod Description
pub mod Worked
