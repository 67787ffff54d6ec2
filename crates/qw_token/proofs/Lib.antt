mod TokenEnds
mod TokenGap
mod TokenLemmas
mod TokenLongest
pub mod TokenRun
mod WorkedLemmas
