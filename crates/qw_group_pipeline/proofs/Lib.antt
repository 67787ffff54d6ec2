mod ValueReads
mod GroupEmits
mod GroupsShort
mod OneEmits
pub mod ValuesCome
pub mod RowFeeds
pub mod GroupsFeed
pub mod BehindFront
pub mod WholeGroups
pub mod GroupsTyped
pub mod ResultSink
pub mod OneRows
