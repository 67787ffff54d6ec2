pub mod Alikeness
pub mod Firsts
pub mod Folds
pub mod Followed
pub mod InRows
pub mod NamedRead
mod Naming
pub mod Orders
pub mod Permuted
pub mod Plans
pub mod ReadTests
pub mod Readable
pub mod Reading
pub mod Results
pub mod Scaled
pub mod Sight
pub mod Sharing
pub mod Smaller
pub mod Steps
pub mod Through
pub mod Typing
mod Alone
mod Apart
pub mod Begun
mod Bounded
mod Building
mod Charges
mod Conjuncts
mod Declared
mod Entries
mod EntryRows
mod EqualKeys
mod Feeding
mod Grounded
pub mod Holding
mod JoinBound
mod Joining
mod Meeting
mod Partners
mod Outcomes
mod Placed
mod Scanned
mod SeenUnits
mod Totals
pub mod ServedBy
pub mod AlikeLookups
mod PlanSeen
pub mod Shown
pub mod QuerySeen
pub mod QueryFew
pub mod QueryNulls
pub mod QueryScans
