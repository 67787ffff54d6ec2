pub mod Constants
pub mod Inner
pub mod NullTests
pub mod Reading
pub mod Texts
pub mod Worked
