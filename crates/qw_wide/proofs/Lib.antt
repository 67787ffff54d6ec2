mod Added
pub mod ArithmeticRuns
pub mod Lengths
pub mod Operations
pub mod OrderRuns
pub mod Orders
pub mod Relations
pub mod Words
