pub mod ArithmeticLaws
mod ArithmeticLemmas
mod DateLemmas
pub mod DayLemmas
pub mod DigitLemmas
pub mod KindLemmas
mod LikeEnds
pub mod LikeExact
pub mod LikeSeeking
mod LikeSpelling
mod LikeTaking
pub mod NumberTextLaws
mod NumberTextLemmas
mod NumeralLemmas
mod PowerLemmas
mod ShortNumberLemmas
pub mod TextLaws
pub mod TextOrderLemmas
mod ValueLemmas
pub mod ValueOrderLemmas
