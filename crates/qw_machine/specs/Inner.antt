-- What restates code for proofs. No public clause rests on it.
pub mod Activities
pub mod CalledCode
pub mod Ended
pub mod Held
pub mod Hosts
pub mod Numeric
pub mod Operated
pub mod Placed
pub mod Points
pub mod Rooms
pub mod Shape
pub mod Stacked
