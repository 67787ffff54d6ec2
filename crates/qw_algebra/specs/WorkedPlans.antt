-- Queries of the worked cases of plans, over the tables of `WorkedQueries` in qw_meaning.
use Rattle.std.specs.Prelude.{pos, [], ◌∷◌}
use Rattle.qw_types.specs.declared.value.Ty.TheVariants.{Integer}
use Rattle.qw_scalar.specs.declared.comparison.Comparison.TheVariants.{Greater}
use Rattle.qw_scalar.specs.Expression.{Condition, column, comparison, number}
use Rattle.qw_meaning.specs.Select.{Specification, alone}
use Rattle.qw_meaning.specs.WorkedQueries.{a_joined_b, a_left_joined_b, is_next, items_entry, one_column, quotient_above_six}

-- A.ID > 2
abbrev pub above_two : Condition
above_two = comparison Greater (column 0 Integer) (number (pos 2) 0)

-- SELECT A.ID, B.ID FROM ITEM A, ITEM B WHERE A.ID = B.ID + 1 AND A.ID > 2
abbrev pub next_items : Specification
next_items = record {
  sources = alone items_entry ∷ alone items_entry ∷ [];
  conjuncts = is_next 0 64 ∷ above_two ∷ [];
  items = column 0 Integer ∷ column 64 Integer ∷ [];
}

-- SELECT ITEM.ID FROM ITEM, NOTHING WHERE 10 / (ITEM.ID - 1) > 6
abbrev pub beside_nothing : Specification
beside_nothing = record {
  sources = alone items_entry ∷ alone (one_column 2) ∷ [];
  conjuncts = quotient_above_six 0 ∷ [];
  items = column 0 Integer ∷ [];
}

-- SELECT A.K FROM A LEFT JOIN B ON A.K = B.K + 1 WHERE 10 / (A.K - 1) > 6
abbrev pub left_joined_above : Specification
left_joined_above = record {
  sources = a_left_joined_b 1 (is_next 0 64) ∷ [];
  conjuncts = quotient_above_six 0 ∷ [];
  items = column 0 Integer ∷ [];
}

-- SELECT ITEM.ID FROM ITEM, A JOIN B ON A.K = B.K
abbrev pub item_and_joined : Specification
item_and_joined = record { sources = alone items_entry ∷ a_joined_b 1 ∷ []; conjuncts = []; items = column 0 Integer ∷ [] }
