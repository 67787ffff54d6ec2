-- What a grouped query comes to, by what its pipelines do: what those raise that reach its groups, and then the walk over the groups, is told by its outcome; and
-- the rows of the walk are those of its outcome, in another order (ISO/IEC 9075:1992, 7.7 to 7.9, 22.1).
use Rattle.std.proofs.Common.{◌≡◌, ℕ, inl, inr, false, Contains, List, [], ◌∷◌, ◌++◌, length, refl, sym, subst, ⊎_elim, arith}
use Rattle.std.specs.List.{flat_map}
use Rattle.std.specs.List.Sorted.{IsPermutation}
use Rattle.std.proofs.lemmas.List.Elements.{Contains-append_left}
use Rattle.std.proofs.lemmas.List.Sorted.{Contains-permutation, IsPermutation-refl, IsPermutation-sym, IsPermutation-trans, length_permutation}
use Rattle.qw_types.specs.declared.code.Code.{Code}
use Rattle.qw_types.specs.declared.value.Val.{Val}
use Rattle.qw_meaning.specs.Flow.{Flow, codes_given, kept}
use Rattle.qw_meaning.specs.Outcome.{IsSameOutcome, Raises, Rows, ended, flow, outcome}
use Rattle.qw_grouped.specs.Grouped.{Grouped, front, kinds_of}
use Rattle.qw_grouped.specs.Groups.{behind_front, group_row, grouped_flow, grouped_table, groups_unless}
use Rattle.qw_grouped.specs.Whole.{grouped, whole_outcome}
use Rattle.qw_grouped.proofs.OrderLemmas as order
use Rattle.qw_feed.specs.Feeds.{Tells}
use Rattle.qw_physical.proofs.Orders.{Alike}
use Rattle.qw_emit.proofs.Answered.{IsTold}

-- ---- lists
pub none_left : (cs : List Code) → IsPermutation [] cs → cs ≡ []
none_left [] p = refl
none_left (c ∷ cs) p = absurd (let long = length_permutation [] (c ∷ cs) p in omega (arith, long))

raises_is : (rows : List (List Val)) (cs codes : List Code) → ended rows cs ≡ Raises codes → cs ≡ codes
raises_is rows [] codes e = absurd cc
raises_is rows (c ∷ cs) codes e = cc

some_raised : (rows : List (List Val)) (cs : List Code) (code : Code) → Contains cs code → ended rows cs ≡ Raises cs
some_raised rows [] code h = absurd (omega (arith, h.1))
some_raised rows (c ∷ cs) code h = refl

-- which rows there are makes no difference where an exception was raised
pub told_any : (rows others : List (List Val)) (cs : List Code) (raised : ℕ) → IsTold (ended rows cs) raised → IsTold (ended others cs) raised
told_any rows others cs raised told =
    ⊎_elim inl
    (λ it.
    let codes_are : cs ≡ it.0 = raises_is rows cs it.0 it.2 in
    let there : Contains cs it.1 = subst (λ (l : List Code). Contains l it.1) (sym codes_are) it.3 in
    inr (cs, it.1, some_raised others cs it.1 there, there, it.4))
    told

-- a bag of rows is an outcome's where it raised nothing
ended_rows : (rows others : List (List Val)) (cs : List Code) → cs ≡ [] → IsPermutation rows others → IsSameOutcome (ended rows cs) (Rows others)
ended_rows rows others cs none p = subst (λ (l : List Code). IsSameOutcome (ended rows l) (Rows others)) (sym none) p

module _ (query : Grouped) (tables : List (List (List Val))) where
  -- ---- what reaches the groups
  front_codes : (before : Flow (List Val)) (code : Code) → Contains before.codes code → Contains (behind_front query before).codes code
  front_codes before code h =
      let table : Flow (List Val) = grouped_table (length query.columns) (kinds_of query.functions) before in
      let made : List Code = flat_map (λ g. codes_given (group_row (length query.columns) (kinds_of query.functions) g)) (groups_unless before.codes (length query.columns) before.rows) in
      let tested : List Code = flat_map (λ (row : List Val). codes_given (kept query.having row)) table.rows in
      Contains-append_left ((before.codes ++ made) ++ tested) _ code (Contains-append_left (before.codes ++ made) tested code (Contains-append_left before.codes made code h))

  pub front_told : (raised : ℕ) → IsTold (outcome (front query) tables) raised → IsTold (whole_outcome (record { body = grouped query; distinct = false }) tables) raised
  front_told raised told =
      ⊎_elim inl
      (λ it.
      let before : Flow (List Val) = flow (front query) tables in
      let codes_are : before.codes ≡ it.0 = raises_is before.rows before.codes it.0 it.2 in
      let there : Contains before.codes it.1 = subst (λ (cs : List Code). Contains cs it.1) (sym codes_are) it.3 in
      let behind = front_codes before it.1 there in
      inr ((grouped_flow query tables).codes, it.1, some_raised (grouped_flow query tables).rows (grouped_flow query tables).codes it.1 behind, behind, it.4))
      told

  -- ---- the walk, where what reaches the groups raised nothing
  module _ (fed : Flow (List Val)) (alike : Alike fed (flow (front query) tables)) (none : fed.codes ≡ []) where
    quiet : (flow (front query) tables).codes ≡ []
    quiet = none_left (flow (front query) tables).codes (subst (λ (cs : List Code). IsPermutation cs (flow (front query) tables).codes) none alike.1)

    same : order.Alike (behind_front query (record { rows = fed.rows; codes = [] })) (grouped_flow query tables)
    same = order.behind_alike query (record { rows = fed.rows; codes = [] }) (flow (front query) tables)
        (record { rows = alike.0; codes = subst (λ (cs : List Code). IsPermutation [] cs) (sym quiet) (IsPermutation-refl []) })

    pub walk_told : (raised : ℕ) → Tells (behind_front query (record { rows = fed.rows; codes = [] })).codes raised → IsTold (whole_outcome (record { body = grouped query; distinct = false }) tables) raised
    walk_told raised tells =
        ⊎_elim inl
        (λ it.
        let there = Contains-permutation (behind_front query (record { rows = fed.rows; codes = [] })).codes (grouped_flow query tables).codes it.0 same.codes it.1 in
        inr ((grouped_flow query tables).codes, it.0, some_raised (grouped_flow query tables).rows (grouped_flow query tables).codes it.0 there, there, it.2))
        tells

    pub walk_rows : (behind_front query (record { rows = fed.rows; codes = [] })).codes ≡ [] → (rows : List (List Val)) → IsPermutation (behind_front query (record { rows = fed.rows; codes = [] })).rows rows
        → IsSameOutcome (whole_outcome (record { body = grouped query; distinct = false }) tables) (Rows rows)
    walk_rows over rows p =
        let all : (grouped_flow query tables).codes ≡ [] = none_left (grouped_flow query tables).codes (subst (λ (cs : List Code). IsPermutation cs (grouped_flow query tables).codes) over same.codes) in
        ended_rows (grouped_flow query tables).rows rows (grouped_flow query tables).codes all
        (IsPermutation-trans (grouped_flow query tables).rows (behind_front query (record { rows = fed.rows; codes = [] })).rows rows
        (IsPermutation-sym (behind_front query (record { rows = fed.rows; codes = [] })).rows (grouped_flow query tables).rows same.rows) p)
