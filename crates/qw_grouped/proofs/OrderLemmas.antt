-- What reaches GROUP BY in another order comes to the same groups, and the same outcome.
use Rattle.std.proofs.Common.{◌≡◌, ◌+◌, ℕ, zero, suc, Bool, true, false, List, [], ◌∷◌, ◌++◌, map, length, Result, Ok, slice_get, refl, sym, ap, subst, arith}
use Rattle.std.specs.List.{flat_map}
use Rattle.std.specs.List.Sorted.{IsPermutation}
use Rattle.std.proofs.lemmas.List.Sorted.{Contains-permutation, IsPermutation-append, IsPermutation-map, IsPermutation-refl, IsPermutation-sym, length_permutation}
use Rattle.qw_types.specs.Arithmetic.{◌>>=◌}
use Rattle.qw_types.specs.ValueOrder.{is_same_row}
use Rattle.qw_types.specs.declared.code.Code.{Code}
use Rattle.qw_types.specs.declared.value.Val.{Val}
use Rattle.qw_scalar.specs.Evaluation.{cell_of}
use Rattle.qw_meaning.specs.Flow.{Flow, codes_given, each, kept, rows_given, selected}
use Rattle.qw_meaning.specs.Outcome.{IsSameOutcome, ended}
use Rattle.qw_grouped.specs.Grouped.{Grouped, kinds_of}
use Rattle.qw_grouped.specs.Groups.{Group, behind_front, function_values, group_row, grouped_table, groups, groups_unless, key_of, keys, members, values_at}
use Rattle.qw_grouped.specs.Whole.{if_distinct}
use Rattle.qw_grouped.specs.declared.set_function.SetFunctionKind.{SetFunctionKind}
use Rattle.qw_grouped.proofs.FunctionLemmas.{any_order, filter_permuted}
use Rattle.qw_grouped.proofs.GroupLemmas.{once_permuted}
use Rattle.qw_grouped.proofs.Lists.{flat_map_any, flat_map_map, flat_map_permuted}

-- ---- set functions of a group

pub values_permuted : (functions : List SetFunctionKind) (place : ℕ) (rows others : List (List Val)) → IsPermutation rows others → function_values place functions rows ≡ function_values place functions others
values_permuted [] place rows others h = refl
values_permuted (f ∷ functions) place rows others h =
    rw (
      any_order f (values_at place rows) (values_at place others) (IsPermutation-map (λ row. cell_of (slice_get row place)) rows others h),
      values_permuted functions (place + 1) rows others h,
    ) refl

-- ---- flows whose rows, and whose exceptions, come in another order

pub record Alike {A : Type 0} (flow other : Flow A) : Type 0 where
  pub rows : IsPermutation flow.rows other.rows
  pub codes : IsPermutation flow.codes other.codes

pub each_alike : {A B : Type 0} (work : A → Result (List B) Code) (flow other : Flow A) → Alike flow other → Alike (each work flow) (each work other)
each_alike work flow other h = record {
  rows = flat_map_permuted (λ row. rows_given (work row)) flow.rows other.rows h.rows;
  codes = IsPermutation-append flow.codes other.codes (flat_map (λ row. codes_given (work row)) flow.rows) (flat_map (λ row. codes_given (work row)) other.rows) h.codes
      (flat_map_permuted (λ row. codes_given (work row)) flow.rows other.rows h.rows);
}

module _ (columns : ℕ) (functions : List SetFunctionKind) where
  -- what a group of each key comes to
  abbrev of_key : List (List Val) → List Val → Result (List (List Val)) Code
  of_key rows key = group_row columns functions (record { key = key; rows = members columns key rows })

  of_key_same : (rows others : List (List Val)) → IsPermutation rows others → (key : List Val) → of_key rows key ≡ of_key others key
  of_key_same rows others h key =
      ap (λ r. r >>= (λ values. Ok ((key ++ values) ∷ [])))
      (values_permuted functions columns (members columns key rows) (members columns key others) (filter_permuted (λ row. is_same_row key (key_of columns row)) rows others h))

  keyed : {A : Type 0} (out : Result (List (List Val)) Code → List A) (rows others : List (List Val)) → IsPermutation rows others
      → IsPermutation (flat_map (λ key. out (of_key rows key)) (keys columns rows)) (flat_map (λ key. out (of_key others key)) (keys columns others))
  keyed out rows others h =
      subst (λ l. IsPermutation l (flat_map (λ key. out (of_key others key)) (keys columns others)))
      (flat_map_any (λ key. out (of_key others key)) (λ key. out (of_key rows key)) (keys columns rows) (λ key. ap out (sym (of_key_same rows others h key))))
      (flat_map_permuted (λ key. out (of_key others key)) (keys columns rows) (keys columns others) (once_permuted (map (key_of columns) rows) (map (key_of columns) others) (IsPermutation-map (key_of columns) rows others h)))

groups_permuted : {A : Type 0} (columns : ℕ) (functions : List SetFunctionKind) (out : Result (List (List Val)) Code → List A) (rows others : List (List Val)) → IsPermutation rows others
    → IsPermutation (flat_map (λ g. out (group_row columns functions g)) (groups columns rows)) (flat_map (λ g. out (group_row columns functions g)) (groups columns others))
groups_permuted zero functions out rows others h =
    subst (λ r. IsPermutation (flat_map (λ g. out (group_row 0 functions g)) (groups 0 rows)) (out (r >>= (λ values. Ok (([] ++ values) ∷ []))) ++ []))
    (values_permuted functions 0 rows others h) (IsPermutation-refl (flat_map (λ g. out (group_row 0 functions g)) (groups 0 rows)))
groups_permuted (suc columns) functions out rows others h =
    let made : List (List Val) → List Val → Group = λ all key. record { key = key; rows = members (suc columns) key all } in
    subst (λ l. IsPermutation l (flat_map (λ g. out (group_row (suc columns) functions g)) (groups (suc columns) others)))
    (sym (flat_map_map (λ g. out (group_row (suc columns) functions g)) (made rows) (keys (suc columns) rows)))
    (subst (λ l. IsPermutation (flat_map (λ key. out (of_key (suc columns) functions rows key)) (keys (suc columns) rows)) l)
    (sym (flat_map_map (λ g. out (group_row (suc columns) functions g)) (made others) (keys (suc columns) others)))
    (keyed (suc columns) functions out rows others h))

unless_permuted : {A : Type 0} (columns : ℕ) (functions : List SetFunctionKind) (out : Result (List (List Val)) Code → List A) (rows others : List (List Val)) (codes more : List Code)
    → IsPermutation rows others → length more ≡ length codes
    → IsPermutation (flat_map (λ g. out (group_row columns functions g)) (groups_unless codes columns rows)) (flat_map (λ g. out (group_row columns functions g)) (groups_unless more columns others))
unless_permuted columns functions out rows others [] [] h n = groups_permuted columns functions out rows others h
unless_permuted columns functions out rows others [] (c ∷ more) h n = absurd (omega (arith, n))
unless_permuted columns functions out rows others (c ∷ codes) [] h n = absurd (omega (arith, n))
unless_permuted columns functions out rows others (c ∷ codes) (d ∷ more) h n = IsPermutation-refl []

pub table_alike : (columns : ℕ) (functions : List SetFunctionKind) (flow other : Flow (List Val)) → Alike flow other → Alike (grouped_table columns functions flow) (grouped_table columns functions other)
table_alike columns functions flow other h =
    let many = length_permutation flow.codes other.codes h.codes in
    record {
      rows = unless_permuted columns functions rows_given flow.rows other.rows flow.codes other.codes h.rows many;
      codes = IsPermutation-append flow.codes other.codes (flat_map (λ g. codes_given (group_row columns functions g)) (groups_unless flow.codes columns flow.rows))
          (flat_map (λ g. codes_given (group_row columns functions g)) (groups_unless other.codes columns other.rows)) h.codes
          (unless_permuted columns functions codes_given flow.rows other.rows flow.codes other.codes h.rows many);
    }

pub behind_alike : (query : Grouped) (flow other : Flow (List Val)) → Alike flow other → Alike (behind_front query flow) (behind_front query other)
behind_alike query flow other h =
    let table : Flow (List Val) → Flow (List Val) = grouped_table (length query.columns) (kinds_of query.functions) in
    each_alike (selected query.items) (each (kept query.having) (table flow)) (each (kept query.having) (table other))
    (each_alike (kept query.having) (table flow) (table other) (table_alike (length query.columns) (kinds_of query.functions) flow other h))

-- ---- outcomes

pub distinct_permuted : (distinct : Bool) (rows others : List (List Val)) → IsPermutation rows others → IsPermutation (if_distinct distinct rows) (if_distinct distinct others)
distinct_permuted false rows others h = h
distinct_permuted true rows others h = once_permuted rows others h

pub ended_same : (rows others : List (List Val)) (codes more : List Code) → IsPermutation rows others → IsPermutation codes more → IsSameOutcome (ended rows codes) (ended others more)
ended_same rows others [] [] h g = h
ended_same rows others [] (c ∷ more) h g = absurd (omega (arith, length_permutation [] (c ∷ more) g))
ended_same rows others (c ∷ codes) [] h g = absurd (omega (arith, length_permutation (c ∷ codes) [] g))
ended_same rows others (c ∷ codes) (d ∷ more) h g = (
  λ code there. Contains-permutation (c ∷ codes) (d ∷ more) code g there,
  λ code there. Contains-permutation (d ∷ more) (c ∷ codes) code (IsPermutation-sym (c ∷ codes) (d ∷ more) g) there,
)
