pub mod ColumnLaws
pub mod CellFacts
mod CellLemmas
mod ColumnLemmas
mod CsvReaderLemmas
mod FileLemmas
pub mod LoadedColumnFacts
pub mod LoadingLaws
mod MachineLemmas
pub mod PartLaws
mod PartLemmas
mod PushLemmas
mod RecordLemmas
mod RowLemmas
mod StorageLemmas
