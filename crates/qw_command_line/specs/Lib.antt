pub mod Inner
pub mod LayoutWords
pub mod Read
pub mod Words
pub mod Worked
