pub mod Met
pub mod Valued
