pub mod ControlPlaces
pub mod Faults
mod HeightFacts
mod InitialConstants
pub mod KindFacts
mod LocalsLemmas
pub mod NameOrder
mod Numbering
mod OpPlaces
pub mod Places
pub mod Reached
mod ValidBodies
mod WalkLemmas
