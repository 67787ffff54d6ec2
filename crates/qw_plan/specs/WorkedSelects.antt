-- The queries of the worked cases of plans, over the tables of `WorkedQueries` in qw_meaning.
use Rattle.std.specs.Prelude.{false, true, [], ◌∷◌}
use Rattle.qw_types.specs.declared.value.Ty.TheVariants.{Integer, Varchar}
use Rattle.qw_scalar.specs.declared.comparison.Comparison.TheVariants.{Equal}
use Rattle.qw_scalar.specs.Expression.{Condition, column, comparison}
use Rattle.qw_meaning.specs.WorkedQueries.{items_entry, quotient_above_six}
use Rattle.qw_grouped.specs.Grouped.{Grouped}
use Rattle.qw_grouped.specs.Whole.{Whole, grouped}
use Rattle.qw_grouped.specs.WorkedGroups.{by_id, by_label, count_rows, label_at, number_at}
use Rattle.qw_algebra.specs.Node.{filter, join, project, scan}
use Rattle.qw_pipe.specs.WorkedPipes.{past_range}
use Rattle.qw_plan.specs.Plan.{Plan, rows}

-- A.LABEL = B.LABEL
abbrev pub same_label : Condition
same_label = comparison Equal (column 3 (Varchar 20)) (column 67 (Varchar 20))

-- SELECT A.LABEL, COUNT(*) FROM ITEM A JOIN ITEM B ON A.LABEL = B.LABEL GROUP BY A.ID, A.LABEL
abbrev pub labels_counted : Grouped
labels_counted = record {
  sources = record { first = items_entry; joins = record { entry = items_entry; outer = false; on = same_label ∷ [] } ∷ [] } ∷ [];
  conjuncts = [];
  columns = by_id ∷ by_label ∷ [];
  functions = count_rows ∷ [];
  having = [];
  items = label_at 1 ∷ number_at 0 2 ∷ [];
}

-- the same with DISTINCT
abbrev pub distinct_labels : Whole
distinct_labels = record { body = grouped labels_counted; distinct = true }

-- ITEM where 10 / (ID - 1) > 6, joined with ITEM where ID + 999999999999999999 > 0
abbrev pub both_raise : Plan
both_raise = rows (project (join false (filter (quotient_above_six 0 ∷ []) (scan 0 3)) (filter (past_range ∷ []) (scan 1 3)) [] []) (column 0 Integer ∷ []))
