mod DrawLemmas
mod SaleLemmas
