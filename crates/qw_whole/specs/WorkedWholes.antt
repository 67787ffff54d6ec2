-- The queries of the worked cases of bounds: grouped ones over the tables of `WorkedGroups` in qw_grouped, and DISTINCT.
use Rattle.std.specs.Prelude.{ℕ, true, List, [], ◌∷◌, map, pos, replicate}
use Rattle.std.specs.List.{range_with_len}
use Rattle.qw_types.specs.declared.value.Val.{Val}
use Rattle.qw_types.specs.declared.value.Val.TheVariants.{Num}
use Rattle.qw_meaning.specs.Select.{alone}
use Rattle.qw_meaning.specs.WorkedQueries.{one_column}
use Rattle.qw_grouped.specs.Grouped.{Grouped}
use Rattle.qw_grouped.specs.Whole.{Whole, plain}
use Rattle.qw_grouped.specs.WorkedGroups.{by_id, count_rows, id, integer_at, of_first_column}

-- SELECT DISTINCT A of a table of one column, so many times
abbrev pub distinct_columns : (table items : ℕ) → Whole
distinct_columns table items = record {
  body = plain (record { sources = alone (one_column table) ∷ []; conjuncts = []; items = replicate items id });
  distinct = true;
}

-- SELECT A, .. GROUP BY A, with A so many times in the select list and COUNT(*) so many times
abbrev pub counted_often : (items functions : ℕ) → Grouped
counted_often items functions = of_first_column 0 (by_id ∷ []) (replicate functions count_rows) (replicate items (integer_at 0))

-- a table of so many numbers, each once
abbrev pub numbers_to : (rows : ℕ) → List (List (List Val))
numbers_to rows = map (λ i. Num (pos i) ∷ []) (range_with_len 0 rows) ∷ []
