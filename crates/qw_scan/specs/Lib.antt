pub mod Held
pub mod Inner
pub mod Places
pub mod Read
