-- What is made of a row depends only on the columns that are read.
use Rattle.std.proofs.Common.{◌≡◌, ◌∙◌, ℕ, Bool, true, ◌&&◌, List, [], ◌∷◌, drop, get_or, length, take, if◌then◌else◌, Result, refl, sym, ap, ap₂}
use Rattle.std.specs.List.{AllByRecursion}
use Rattle.qw_types.specs.ValueOrder.{is_same_row}
use Rattle.qw_types.specs.declared.code.Code.{Code}
use Rattle.qw_types.specs.declared.value.Val.{Val}
use Rattle.qw_scalar.specs.Evaluation.{at_row}
use Rattle.qw_scalar.specs.Expression.{Expression}
use Rattle.qw_meaning.specs.Flow.{Flow, values_of}
use Rattle.qw_meaning.specs.From.{first_of, merged}
use Rattle.qw_meaning.proofs.FromLemmas.{cell, merged_cell}
use Rattle.qw_algebra.specs.Columns.{names_only}
use Rattle.qw_rewrite.proofs.Rows.{NamesOnly, passes_agrees, value_agrees}
use Rattle.qw_feed.specs.Feeds.{flow_by, flow_over, nothing, where_true}
use Rattle.qw_table.specs.Joins.{where_values}
use Rattle.qw_physical.specs.Physical.{Operator, Probe, Sink, filter, probe}
use Rattle.qw_physical.specs.Courses.{fed, is_alone, isnt_failed, meets, met, pair_of, placed, row_of, sink_values}
use Rattle.qw_physical.proofs.Alone.{alone_is, any_same}
use Rattle.qw_physical.proofs.Orders.{over_same}
use Rattle.qw_physical.proofs.Through.{at_operator, by_same}

module _ (test : ℕ → Bool) where
  -- rows with the same values at the columns that pass the test
  abbrev pub Agree : (r s : List Val) → Type 0
  Agree r s = (i : ℕ) → test i ≡ true → cell r i ≡ cell s i

  -- what sees only these columns
  abbrev pub Sees : (List Val → Flow (List Val)) → Type 0
  Sees work = (r s : List Val) → Agree r s → work r ≡ work s

  abbrev pub AllName : List Expression → Type 0
  AllName es = AllByRecursion (λ e. names_only test e ≡ true) es

  pub values_agree : (r s : List Val) → Agree r s → (es : List Expression) → AllName es → values_of es (at_row r) ≡ values_of es (at_row s)
  values_agree r s h [] t = refl
  values_agree r s h (e ∷ es) t = rw (value_agrees test r s h e t.0, values_agree r s h es t.1) refl

  pub merged_agree : (r s x y : List Val) → Agree r s → Agree x y → Agree (merged r x) (merged s y)
  merged_agree r s x y h g i t = merged_cell r x i ∙ ap₂ first_of (h i t) (g i t) ∙ sym (merged_cell s y i)

  abbrev pub OperatorNames : Operator → Type 0
  OperatorNames (filter conjuncts) = NamesOnly test conjuncts
  OperatorNames (probe p) = AllName p.key × NamesOnly test p.on

  module _ (built : List (List (List Val))) where
    met_sees : (p : Probe) (key : List Val) (work : List Val → Flow (List Val)) → NamesOnly test p.on → Sees work → (r s : List Val) → Agree r s → (entry : List Val)
        → met work p r key entry ≡ met work p s key entry
    met_sees p key work names w r s h entry =
        let same : Agree (pair_of p r entry) (pair_of p s entry) = merged_agree r s (row_of p.kept (drop (length p.key) entry)) (row_of p.kept (drop (length p.key) entry)) h (λ i t. refl) in
        ap₂ (λ (q : Result Bool Code) (x : Flow (List Val)). if is_same_row key (take (length p.key) entry) then flow_by q (where_true x) else nothing)
        (passes_agrees test (pair_of p r entry) (pair_of p s entry) same p.on names) (w (pair_of p r entry) (pair_of p s entry) same)

    pub meets_sees : (p : Probe) (key : List Val) → NamesOnly test p.on → (r s : List Val) → Agree r s → (entry : List Val) → meets p r key entry ≡ meets p s key entry
    meets_sees p key names r s h entry =
        ap (λ (q : Result Bool Code). is_same_row key (take (length p.key) entry) && isnt_failed q)
        (passes_agrees test (pair_of p r entry) (pair_of p s entry) (merged_agree r s (row_of p.kept (drop (length p.key) entry)) (row_of p.kept (drop (length p.key) entry)) h (λ i t. refl)) p.on names)

    pub operator_sees : (o : Operator) (work : List Val → Flow (List Val)) → OperatorNames o → Sees work → Sees (at_operator built o work)
    operator_sees (filter conjuncts) work names w r s h =
        ap₂ (λ (q : Result Bool Code) (x : Flow (List Val)). flow_by q (where_true x)) (passes_agrees test r s h conjuncts names) (w r s h)
    operator_sees (probe p) work names w r s h =
        let entries : List (List Val) = get_or built p.table [] in
        ap (λ (q : Result (List Val) Code). flow_by q (λ key. if is_alone p r key entries then work r else where_values (flow_over (met work p r key) entries) key)) (values_agree r s h p.key names.0)
        ∙ by_same (values_of p.key (at_row s)) (λ key. if is_alone p r key entries then work r else where_values (flow_over (met work p r key) entries) key)
        (λ key. if is_alone p s key entries then work s else where_values (flow_over (met work p s key) entries) key)
        (λ key.
        ap (λ (b : Bool). if b then work r else where_values (flow_over (met work p r key) entries) key)
        (alone_is p p r s key entries entries refl (any_same (meets p r key) (meets p s key) entries (meets_sees p key names.1 r s h)))
        ∙ ap₂ (λ (x y : Flow (List Val)). if is_alone p s key entries then x else where_values y key) (w r s h)
        (over_same (met work p r key) (met work p s key) entries (met_sees p key work names.1 w r s h)))

    pub sink_sees : (sink : Sink) → AllName (sink_values sink) → Sees (fed built [] sink)
    sink_sees sink names r s h = ap (λ (q : Result (List Val) Code). flow_by q (placed sink)) (values_agree r s h (sink_values sink) names)
