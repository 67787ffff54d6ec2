-- The pipelines that are made of a grouped query with DISTINCT keep what is promised of it: the rows that HAVING and the select list make go into a second table
-- of groups, over all their columns, and the walk over that one makes each of them once (ISO/IEC 9075:1992, 7.7 to 7.9).
use Rattle.std.proofs.Common.{◌≡◌, ◌∙◌, ◌≤◌, ℕ, ◌+◌, ◌*◌, List, [], ◌∷◌, ◌++◌, length, take, Result, Ok, Err, refl, sym, ap, subst, arith}
use Rattle.std.specs.List.{AllByRecursion}
use Rattle.std.specs.List.Sorted.{IsPermutation}
use Rattle.std.proofs.lemmas.List.Sorted.{IsPermutation-refl, sum_by-IsPermutation}
use Rattle.qw_types.specs.Arithmetic.{◌>>=◌}
use Rattle.qw_types.specs.declared.code.Code.{Code}
use Rattle.qw_types.specs.declared.value.Val.{Val}
use Rattle.qw_layout.specs.Hash.{slot}
use Rattle.qw_scalar.specs.Evaluation.{at_row}
use Rattle.qw_scalar.specs.Expression.{Expression}
use Rattle.qw_meaning.specs.Flow.{Flow, each, rows_given, selected, values_of}
use Rattle.qw_meaning.specs.Select.{Specification}
use Rattle.qw_grouped.specs.Grouped.{Grouped, kinds_of}
use Rattle.qw_grouped.specs.Groups.{behind_front, function_values, key_of, keys, members}
use Rattle.qw_grouped.specs.declared.set_function.SetFunctionKind.{SetFunctionKind}
use Rattle.qw_meaning.proofs.ListLemmas.{all_flat_map}
use Rattle.qw_feed.specs.Feeds.{flow_by, flow_over, spend}
use Rattle.qw_feed.specs.Rows.{Row}
use Rattle.qw_table.specs.Keys.{text_octets}
use Rattle.qw_table.specs.Tables as tables_of
use Rattle.qw_table.specs.Tables.{in_slot}
use Rattle.qw_pipe.specs.General.{general_hashing}
use Rattle.qw_physical.specs.Courses.{cost, fed}
use Rattle.qw_physical.specs.Physical.{filter, select}
use Rattle.qw_operator.specs.Costs.{cost_to}
use Rattle.qw_group_pipeline.proofs.BehindFront.{behind_alike}
use Rattle.qw_group_pipeline.proofs.RowFeeds.{by_result}
use Rattle.qw_whole.specs.GroupTables.{chosen_units, distinct_units}
use Rattle.qw_compile_whole.specs.WholeDistinct.{distinct_columns, distinct_grouping}
use Rattle.qw_compile_whole.proofs.GroupCosts.{cost_to_less}
use Rattle.qw_compile_whole.proofs.GroupShares.{rows_within}
use Rattle.qw_compile_whole.proofs.GroupTotals.{total, total_append, total_sum}
use Rattle.qw_compile_whole.proofs.WholeBehind.{columns_many, long_values, units_once}

-- ---- a walk into another table
total_permuted : (f : List Val → ℕ) (xs ys : List (List Val)) → IsPermutation xs ys → total f xs ≡ total f ys
total_permuted f xs ys p = total_sum f xs ∙ (sym (sum_by-IsPermutation f xs ys p) ∙ sym (total_sum f ys))

-- keys as entries, wherever they stand
abbrev entries_for : List (List Val) → List Row
entries_for [] = []
entries_for (k ∷ ks) = record { part = 0; offset = 0; values = k } ∷ entries_for ks

values_back : (ks : List (List Val)) → tables_of.values_of (entries_for ks) ≡ ks
values_back [] = refl
values_back (k ∷ ks) = ap (λ (rest : List (List Val)). k ∷ rest) (values_back ks)

module _ (query : Grouped) (turn : List Val → ℕ) (rows : List (List Val)) where
  abbrev functions : List SetFunctionKind
  functions = kinds_of query.functions

  abbrev n : ℕ
  n = length query.columns

  -- what comes of a group
  abbrev made_of : List Val → Flow (List Val)
  made_of key = flow_by (function_values (length query.columns) (kinds_of query.functions) (members (length query.columns) key rows)) (λ vs. fed [] (filter query.having ∷ []) (select query.items) (key ++ vs))

  one_less : (read : ℕ) (key : List Val) (q : Result (List Val) Code) → read + by_result q (λ vs. cost_to query.items turn [] (filter query.having ∷ []) (key ++ vs))
      ≤ (read + by_result q (λ vs. cost [] (filter query.having ∷ []) (select query.items) (key ++ vs))) + total turn (flow_by q (λ vs. fed [] (filter query.having ∷ []) (select query.items) (key ++ vs))).rows
  one_less read key (Ok vs) = let less = cost_to_less query.items turn [] (filter query.having ∷ []) (key ++ vs) tt in omega (arith, less)
  one_less read key (Err code) = omega arith

  all_less : (read : ℕ) (ks : List (List Val)) →
      spend (λ (key : List Val). read + by_result (function_values (length query.columns) (kinds_of query.functions) (members (length query.columns) key rows)) (λ vs. cost_to query.items turn [] (filter query.having ∷ []) (key ++ vs))) ks
      ≤ spend (λ (key : List Val). read + by_result (function_values (length query.columns) (kinds_of query.functions) (members (length query.columns) key rows)) (λ vs. cost [] (filter query.having ∷ []) (select query.items) (key ++ vs))) ks
      + total turn (flow_over (λ (e : Row). flow_by (function_values (length query.columns) (kinds_of query.functions) (members (length query.columns) e.values rows)) (λ vs. fed [] (filter query.having ∷ []) (select query.items) (e.values ++ vs))) (entries_for ks)).rows
  all_less read [] = omega arith
  all_less read (k ∷ ks) =
      let own = one_less read k (function_values n functions (members n k rows)) in
      let rest = all_less read ks in
      let both = total_append turn (made_of k).rows (flow_over (λ (e : Row). made_of e.values) (entries_for ks)).rows in
      omega (arith, own, rest, both)

  -- so many units for each row besides
  pub enters_less : 1 ≤ length query.columns → (read : ℕ) →
      spend (λ (key : List Val). read + by_result (function_values (length query.columns) (kinds_of query.functions) (members (length query.columns) key rows)) (λ vs. cost_to query.items turn [] (filter query.having ∷ []) (key ++ vs))) (keys (length query.columns) rows)
      ≤ spend (λ (key : List Val). read + by_result (function_values (length query.columns) (kinds_of query.functions) (members (length query.columns) key rows)) (λ vs. cost [] (filter query.having ∷ []) (select query.items) (key ++ vs))) (keys (length query.columns) rows)
      + total turn (behind_front query (record { rows = rows; codes = [] })).rows
  enters_less some read =
      let less = all_less read (keys n rows) in
      let alike = behind_alike query rows (entries_for (keys n rows)) some (subst (λ (ks : List (List Val)). IsPermutation ks (keys n rows)) (sym (values_back (keys n rows))) (IsPermutation-refl (keys n rows))) in
      let same = total_permuted turn (flow_over (λ (e : Row). made_of e.values) (entries_for (keys n rows))).rows (behind_front query (record { rows = rows; codes = [] })).rows alike.0 in
      omega (arith, less, same)

-- ---- rows of a select list have so many values
pub made_long : (items : List Expression) (f : Flow (List Val)) → AllByRecursion (λ (r : List Val). length r ≡ length items) (each (selected items) f).rows
made_long items f = all_flat_map (λ (r : List Val). Unit {0}) (λ (r : List Val). length r ≡ length items) (λ (row : List Val). rows_given (selected items row)) f.rows (λ row t. one row (values_of items (at_row row)) refl) (any f.rows)
  where
    any : (rows : List (List Val)) → AllByRecursion (λ (r : List Val). Unit {0}) rows
    any [] = tt
    any (r ∷ rows) = (tt, any rows)

    one : (row : List Val) (q : Result (List Val) Code) → values_of items (at_row row) ≡ q → AllByRecursion (λ (r : List Val). length r ≡ length items) (rows_given (q >>= (λ values. let s : Result (List (List Val)) Code = Ok (values ∷ []) in s)))
    one row (Ok vs) is = (long_values items (at_row row) vs is, tt)
    one row (Err code) is = tt

-- ---- rows that are put into the second table
module _ (shown : Specification) (some : 1 ≤ length shown.items) (rows : List (List Val)) (long : AllByRecursion (λ (r : List Val). length r ≡ length shown.items) rows) where
  some_columns : 1 ≤ length (distinct_columns 0 shown.items)
  some_columns = let many = columns_many 0 shown.items in omega (arith, some, many)

  -- of that many columns, and no set functions
  pub turns_once : (columns : ℕ) (functions : List SetFunctionKind) → columns ≡ length (distinct_columns 0 shown.items) → functions ≡ [] →
      total (λ (v : List Val). text_octets (take columns v) + length (in_slot slot (slot (key_of columns v)) (keys columns rows)) * (1 + text_octets (take columns v)) + chosen_units columns functions v) rows ≤ distinct_units general_hashing rows
  turns_once columns functions many none =
      subst (λ (c : ℕ). total (λ (v : List Val). text_octets (take c v) + length (in_slot slot (slot (key_of c v)) (keys c rows)) * (1 + text_octets (take c v)) + chosen_units c functions v) rows ≤ distinct_units general_hashing rows) (sym many)
      (subst (λ (fs : List SetFunctionKind). total (λ (v : List Val). text_octets (take (length (distinct_columns 0 shown.items)) v) + length (in_slot slot (slot (key_of (length (distinct_columns 0 shown.items)) v)) (keys (length (distinct_columns 0 shown.items)) rows)) * (1 + text_octets (take (length (distinct_columns 0 shown.items)) v))
      + chosen_units (length (distinct_columns 0 shown.items)) fs v) rows ≤ distinct_units general_hashing rows) (sym none)
      (subst (λ (u : ℕ). total (λ (v : List Val). text_octets (take (length (distinct_columns 0 shown.items)) v) + length (in_slot slot (slot (key_of (length (distinct_columns 0 shown.items)) v)) (keys (length (distinct_columns 0 shown.items)) rows)) * (1 + text_octets (take (length (distinct_columns 0 shown.items)) v))
      + chosen_units (length (distinct_columns 0 shown.items)) [] v) rows ≤ u) (units_once shown some rows long general_hashing) (rows_within (distinct_grouping shown) rows some_columns)))
