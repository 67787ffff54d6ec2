-- Rows in the order of ORDER BY (ISO/IEC 9075:1992, 13.1; 8.2 for how values compare).
use Rattle.std.specs.Prelude.{Bool, true, false, List, [], ◌∷◌, slice_index_or}
use Rattle.std.specs.List.Sorted.{IsPermutation, IsSorted, IsStable}
use Rattle.std.specs.Ordering.{ordering_reverse, ordering_then}
use Rattle.std.specs.declared.cmp.Ordering.{Ordering}
use Rattle.std.specs.declared.cmp.Ordering.TheVariants.{Equal}
use Rattle.qw_types.specs.ValueOrder.{value_order}
use Rattle.qw_types.specs.declared.value.Val.{Val}
use Rattle.qw_types.specs.declared.value.Val.TheVariants.{Null}
use Rattle.qw_order.specs.declared.sort_key.SortKey.{SortKey}

-- the value of a row in the column of a key; a row that has no such column is null there
abbrev pub key_value : SortKey → List Val → Val
key_value key row = slice_index_or row key.position Null

-- DESC turns the order of values round, nulls too
abbrev pub directed : (is_descending : Bool) → Ordering → Ordering
directed false order = order
directed true order = ordering_reverse order

-- how two rows stand by keys: the first key whose values differ decides, and without one neither comes first
abbrev pub key_order : List SortKey → List Val → List Val → Ordering
key_order [] row other = Equal
key_order (key ∷ keys) row other =
    ordering_then (directed key.is_descending (value_order (key_value key row) (key_value key other))) (key_order keys row other)

-- Rows sorted by keys: the same rows, each as often as it was there, none before one that the keys put before it, and rows that are equal
-- in all keys as they stood. The standard leaves the order of such rows to the implementation; nulls are below all values.
pub record AreSorted (keys : List SortKey) (rows sorted : List (List Val)) : Type 0 where
  pub arranged : IsPermutation rows sorted
  pub ordered : IsSorted (key_order keys) sorted
  pub stable : IsStable (key_order keys) rows sorted
