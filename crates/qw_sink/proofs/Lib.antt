mod CellLemmas
mod ChainLemmas
mod DoneLemmas
mod LineLemmas
mod SinkLemmas
