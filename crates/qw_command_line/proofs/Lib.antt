mod LayoutLemmas
mod ProgramLemmas
mod ReadLemmas
mod ReadingLemmas
