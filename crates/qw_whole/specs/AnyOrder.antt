-- Tables that have the same rows, whatever their order (ISO/IEC 9075:1992, 4.9 "Tables": a table is a multiset of rows).
use Rattle.std.specs.Prelude.{ℕ, List}
use Rattle.std.specs.List.Sorted.{IsPermutation}
use Rattle.qw_types.specs.Contents.{rows_of}
use Rattle.qw_types.specs.declared.value.Val.{Val}

abbrev pub ArePermuted : (tables others : List (List (List Val))) → Type 0
ArePermuted tables others = (table : ℕ) → IsPermutation (rows_of tables table) (rows_of others table)
