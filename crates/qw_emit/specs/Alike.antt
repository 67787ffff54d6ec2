-- Entries of FROM over one schema.
use Rattle.std.specs.Prelude.{◌≡◌, List, Contains}
use Rattle.qw_meaning.specs.Select.{Entry}

-- those that name one table have the same columns
abbrev pub AreAlike : List Entry → Type 0
AreAlike entries = (a b : Entry) → Contains entries a → Contains entries b → a.table ≡ b.table → a.columns ≡ b.columns
