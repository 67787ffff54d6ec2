mod Bringing
mod Congruence
mod Constructs
mod Evaluations
mod Lists
mod Literals
pub mod Named
mod Trees
