-- A query over tables whose rows stand in another order asks for the same units and pages.
use Rattle.std.proofs.Common.{◌≡◌, ℕ, ◌+◌, Bool, true, false, List, [], length, sym, ap, ap₂}
use Rattle.std.specs.List.Sorted.{IsPermutation}
use Rattle.std.proofs.lemmas.List.Sorted.{IsPermutation-refl, length_permutation}
use Rattle.qw_types.specs.declared.value.Val.{Val}
use Rattle.qw_grouped.specs.Grouped.{front}
use Rattle.qw_grouped.specs.Whole.{Body, Whole, grouped, plain}
use Rattle.qw_grouped.proofs.OrderLemmas.{behind_alike, distinct_permuted as rows_distinct}
use Rattle.qw_pipe.specs.General.{general_hashing}
use Rattle.qw_meaning.specs.Select.{Specification}
use Rattle.qw_compile.specs.PlannedQueries.{kept_by, placed}
use Rattle.qw_whole.specs.AnyOrder.{ArePermuted}
use Rattle.qw_whole.specs.GroupTables.{distinct_size, group_size, unraised}
use Rattle.qw_whole.specs.WholePromises.{Taken, body_rows, body_units, items_in, one_more, pages_for, planned_rows, result_rows, taken, taken_by_body, taken_by_joins, units_before, whole_pages, whole_units}
use Rattle.qw_whole.proofs.PermutedPlans.{node_alike, octets_same, units_same}
use Rattle.qw_whole.proofs.PermutedTables.{distinct_octets_permuted, distinct_permuted, groups_permuted, octets_permuted}

module _ (tables others : List (List (List Val))) (same : ArePermuted tables others) where
  planned_permuted : (specification : Specification) → IsPermutation (planned_rows specification tables) (planned_rows specification others)
  planned_permuted specification = (node_alike tables others same (placed specification)).rows

  rows_permuted : (body : Body) → IsPermutation (body_rows body tables) (body_rows body others)
  rows_permuted (plain specification) = planned_permuted specification
  rows_permuted (grouped query) =
      (behind_alike query (unraised (planned_rows (front query) tables)) (unraised (planned_rows (front query) others))
      (record { rows = planned_permuted (front query); codes = IsPermutation-refl [] })).rows

  body_same : (body : Body) → body_units body tables ≡ body_units body others
  body_same (plain specification) = units_same tables others same general_hashing (placed specification)
  body_same (grouped query) =
      ap₂ (λ (a b : ℕ). a + b) (units_same tables others same general_hashing (placed (front query)))
      (groups_permuted general_hashing query (planned_rows (front query) tables) (planned_rows (front query) others) (planned_permuted (front query)))

  before_by : (distinct : Bool) (body : Body) → units_before (record { body = body; distinct = distinct }) tables ≡ units_before (record { body = body; distinct = distinct }) others
  before_by false body = body_same body
  before_by true body = ap₂ (λ (a b : ℕ). a + b) (body_same body) (distinct_permuted general_hashing (body_rows body tables) (body_rows body others) (rows_permuted body))

  results_many : (query : Whole) → length (result_rows query tables) ≡ length (result_rows query others)
  results_many query =
      sym (length_permutation (result_rows query tables) (result_rows query others)
      (rows_distinct query.distinct (body_rows query.body tables) (body_rows query.body others) (rows_permuted query.body)))

  pub whole_same : (query : Whole) → whole_units query tables ≡ whole_units query others
  whole_same query = ap₂ (λ (a b : ℕ). a + b) (before_by query.distinct query.body) (results_many query)

  joins_same : (specification : Specification) → taken_by_joins specification tables ≡ taken_by_joins specification others
  joins_same specification = ap (λ (n : ℕ). record (taken_by_joins specification tables) { octets = n }) (octets_same tables others same (kept_by specification) (placed specification))

  body_taken : (body : Body) → taken_by_body body tables ≡ taken_by_body body others
  body_taken (plain specification) = joins_same specification
  body_taken (grouped query) =
      ap₂ (λ (t : Taken) (n : ℕ). one_more t n (group_size query)) (joins_same (front query))
      (octets_permuted query (planned_rows (front query) tables) (planned_rows (front query) others) (planned_permuted (front query)))

  taken_same : (distinct : Bool) (body : Body) → taken (record { body = body; distinct = distinct }) tables ≡ taken (record { body = body; distinct = distinct }) others
  taken_same false body = body_taken body
  taken_same true body =
      ap₂ (λ (t : Taken) (n : ℕ). one_more t n (distinct_size (length (items_in body)))) (body_taken body)
      (distinct_octets_permuted (length (items_in body)) (body_rows body tables) (body_rows body others) (rows_permuted body))

  pub pages_same : (query : Whole) → whole_pages query tables ≡ whole_pages query others
  pages_same query =
      ap₂ (λ (t : Taken) (n : ℕ). pages_for t n (length (items_in query.body))) (taken_same query.distinct query.body)
      (results_many query)
