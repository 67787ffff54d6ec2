pub mod KeyOrderLemmas
pub mod SortedLemmas
