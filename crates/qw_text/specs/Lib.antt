pub mod Likes
pub mod Texts
pub mod Inner
