pub mod Closing
mod MagnitudeLemmas
pub mod RaiseLemmas
pub mod RangeLemmas
mod TreeLemmas
