-- What restates code for proofs. No public clause rests on it.
pub mod Entries
pub mod FirstSeats
pub mod Pools
pub mod Rounds
pub mod Seats
pub mod StandingCode
