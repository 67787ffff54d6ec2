-- Pipelines that mean the same, expression by expression, feed the same and take as many units.
use Rattle.std.proofs.Common.{◌≡◌, ◌∙◌, ℕ, ◌+◌, Bool, ◌&&◌, if◌then◌else◌, List, [], ◌∷◌, ◌++◌, drop, get_or, length, map, take, Result, Ok, Err, refl, ap, ap₂, subst}
use Rattle.std.specs.List.{AllZip, list_any}
use Rattle.std.specs.List.Sorted.{IsPermutation}
use Rattle.qw_types.specs.ValueOrder.{is_same_row}
use Rattle.qw_types.specs.declared.code.Code.{Code}
use Rattle.qw_types.specs.declared.value.Val.{Val}
use Rattle.qw_layout.specs.Hash.{slot}
use Rattle.qw_scalar.specs.Conjuncts.{passes}
use Rattle.qw_scalar.specs.Evaluation.{Environment, at_row}
use Rattle.qw_scalar.specs.Expression.{Condition, Expression}
use Rattle.qw_scalar.specs.Same.{AreSame, IsSame}
use Rattle.qw_scalar.specs.Units.{units_of_all, units_of_items}
use Rattle.qw_meaning.specs.Flow.{Flow, values_of}
use Rattle.qw_meaning.specs.From.{entry_flow, merged}
use Rattle.qw_meaning.proofs.SameLemmas.{conjuncts_units, item_count, items_units}
use Rattle.qw_feed.specs.Feeds.{flow_by, flow_over, nothing, one_row, spend, where_true}
use Rattle.qw_table.specs.Joins.{keyed, where_values}
use Rattle.qw_table.specs.Keys.{text_octets}
use Rattle.qw_table.specs.Tables.{in_slot}
use Rattle.qw_physical.specs.Physical.{Operator, Pipeline, Probe, Sink, build, filter, probe, select}
use Rattle.qw_physical.specs.Courses.{AreBuilt, alone_cost, by_values, column_of, cost, costs, fed, is_alone, isnt_failed, meets, met, met_cost, pair_of, pipeline_cost, pipeline_fed, placed, row_of, sink_key, sink_values, where_passed}
use Rattle.qw_physical.specs.Spelled.{IsSameOperator, IsSamePipeline, IsSameProbe, IsSameSink}
use Rattle.qw_physical.specs.declared.pipeline.ReadColumn.{ReadColumn}
use Rattle.qw_physical.proofs.Alone.{alone_is, any_same}
use Rattle.qw_physical.proofs.Orders.{over_same}
use Rattle.qw_physical.proofs.Through.{by_same}

-- ---- expressions

passes_same : (cs ds : List Condition) (env : Environment) → AllZip AreSame cs ds → passes cs env ≡ passes ds env
passes_same [] [] env h = refl
passes_same [] (d ∷ ds) env h = absurd h
passes_same (c ∷ cs) [] env h = absurd h
passes_same (c ∷ cs) (d ∷ ds) env h = rw (h.0.truth env, passes_same cs ds env h.1) refl

values_same : (es fs : List Expression) (env : Environment) → AllZip IsSame es fs → values_of es env ≡ values_of fs env
values_same [] [] env h = refl
values_same [] (f ∷ fs) env h = absurd h
values_same (e ∷ es) [] env h = absurd h
values_same (e ∷ es) (f ∷ fs) env h = rw (h.0.value env, values_same es fs env h.1) refl

itself : (e : Expression) → IsSame e e
itself e = record { value = λ env. refl; kind = refl; scale = refl; units = λ env. refl }

behind_same : (es fs gs : List Expression) → AllZip IsSame es fs → AllZip IsSame (es ++ gs) (fs ++ gs)
behind_same [] [] [] h = tt
behind_same [] [] (g ∷ gs) h = (itself g, behind_same [] [] gs tt)
behind_same [] (f ∷ fs) gs h = absurd h
behind_same (e ∷ es) [] gs h = absurd h
behind_same (e ∷ es) (f ∷ fs) gs h = (h.0, behind_same es fs gs h.1)

sink_values_same : (s t : Sink) → IsSameSink s t → AllZip IsSame (sink_values s) (sink_values t)
sink_values_same (build b) (build c) h =
    subst (λ (kept : List ReadColumn). AllZip IsSame (b.key ++ map column_of b.kept) (c.key ++ map column_of kept)) h.kept (behind_same b.key c.key (map column_of b.kept) h.key)
sink_values_same (build b) (select items) h = absurd h
sink_values_same (select items) (build c) h = absurd h
sink_values_same (select items) (select others) h = h

placed_same : (s t : Sink) → IsSameSink s t → (values : List Val) → placed s values ≡ placed t values
placed_same (build b) (build c) h values = ap (λ (n : ℕ). where_values (one_row values) (take n values)) (item_count b.key c.key h.key)
placed_same (build b) (select items) h values = absurd h
placed_same (select items) (build c) h values = absurd h
placed_same (select items) (select others) h values = refl

sink_key_same : (s t : Sink) → IsSameSink s t → (values : List Val) → sink_key s values ≡ sink_key t values
sink_key_same (build b) (build c) h values = ap (λ (n : ℕ). take n values) (item_count b.key c.key h.key)
sink_key_same (build b) (select items) h values = absurd h
sink_key_same (select items) (build c) h values = absurd h
sink_key_same (select items) (select others) h values = refl

pair_same : (p q : Probe) → IsSameProbe p q → (row entry : List Val) → pair_of p row entry ≡ pair_of q row entry
pair_same p q h row entry = ap₂ (λ (kept : List ReadColumn) (n : ℕ). merged row (row_of kept (drop n entry))) h.kept (item_count p.key q.key h.key)

-- ---- sums

pub by_values_same : (r : Result (List Val) Code) (f g : List Val → ℕ) → ((vs : List Val) → f vs ≡ g vs) → by_values r f ≡ by_values r g
by_values_same (Ok vs) f g h = h vs
by_values_same (Err code) f g h = refl

pub spend_same : (f g : List Val → ℕ) (xs : List (List Val)) → ((x : List Val) → f x ≡ g x) → spend f xs ≡ spend g xs
spend_same f g [] h = refl
spend_same f g (x ∷ xs) h = ap₂ (λ (a b : ℕ). 1 + a + b) (h x) (spend_same f g xs h)

-- ---- what is fed

module _ (built : List (List (List Val))) where
  met_same : (p q : Probe) → IsSameProbe p q → (f g : List Val → Flow (List Val)) → ((r : List Val) → f r ≡ g r) → (row key entry : List Val) → met f p row key entry ≡ met g q row key entry
  met_same p q h f g same row key entry =
      ap₂ (λ (n : ℕ) (x : List Val). if is_same_row key (take n entry) then flow_by (passes p.on (at_row x)) (where_true (f x)) else nothing) (item_count p.key q.key h.key) (pair_same p q h row entry)
      ∙ ap₂ (λ (r : Result Bool Code) (made : Flow (List Val)). if is_same_row key (take (length q.key) entry) then flow_by r (where_true made) else nothing)
      (passes_same p.on q.on (at_row (pair_of q row entry)) h.on) (same (pair_of q row entry))

  -- whether a row goes on by itself
  meets_same : (p q : Probe) → IsSameProbe p q → (row key entry : List Val) → meets p row key entry ≡ meets q row key entry
  meets_same p q h row key entry =
      ap₂ (λ (n : ℕ) (x : List Val). is_same_row key (take n entry) && isnt_failed (passes p.on (at_row x))) (item_count p.key q.key h.key) (pair_same p q h row entry)
      ∙ ap (λ (r : Result Bool Code). is_same_row key (take (length q.key) entry) && isnt_failed r) (passes_same p.on q.on (at_row (pair_of q row entry)) h.on)

  alone_same : (p q : Probe) → IsSameProbe p q → (row key : List Val) → is_alone p row key (get_or built p.table []) ≡ is_alone q row key (get_or built q.table [])
  alone_same p q h row key =
      alone_is p q row row key (get_or built p.table []) (get_or built q.table []) h.outer
      (ap (λ (n : ℕ). list_any (meets p row key) (get_or built n [])) h.table ∙ any_same (meets p row key) (meets q row key) (get_or built q.table []) (meets_same p q h row key))

  probe_same : (p q : Probe) → IsSameProbe p q → (f g : List Val → Flow (List Val)) → ((r : List Val) → f r ≡ g r) → (row : List Val)
      → flow_by (values_of p.key (at_row row)) (λ key. if is_alone p row key (get_or built p.table []) then f row else where_values (flow_over (met f p row key) (get_or built p.table [])) key)
      ≡ flow_by (values_of q.key (at_row row)) (λ key. if is_alone q row key (get_or built q.table []) then g row else where_values (flow_over (met g q row key) (get_or built q.table [])) key)
  probe_same p q h f g same row =
      ap (λ (r : Result (List Val) Code). flow_by r (λ key. if is_alone p row key (get_or built p.table []) then f row else where_values (flow_over (met f p row key) (get_or built p.table [])) key))
      (values_same p.key q.key (at_row row) h.key)
      ∙ by_same (values_of q.key (at_row row)) (λ key. if is_alone p row key (get_or built p.table []) then f row else where_values (flow_over (met f p row key) (get_or built p.table [])) key)
      (λ key. if is_alone q row key (get_or built q.table []) then g row else where_values (flow_over (met g q row key) (get_or built q.table [])) key)
      (λ key.
      ap (λ (b : Bool). if b then f row else where_values (flow_over (met f p row key) (get_or built p.table [])) key) (alone_same p q h row key)
      ∙ ap₂ (λ (itself made : Flow (List Val)). if is_alone q row key (get_or built q.table []) then itself else where_values made key) (same row)
      (ap (λ (n : ℕ). flow_over (met f p row key) (get_or built n [])) h.table ∙ over_same (met f p row key) (met g q row key) (get_or built q.table []) (met_same p q h f g same row key)))

  pub fed_same : (os qs : List Operator) (s t : Sink) → AllZip IsSameOperator os qs → IsSameSink s t → (row : List Val) → fed built os s row ≡ fed built qs t row
  fed_same [] [] s t h g row =
      ap (λ (r : Result (List Val) Code). flow_by r (placed s)) (values_same (sink_values s) (sink_values t) (at_row row) (sink_values_same s t g))
      ∙ by_same (values_of (sink_values t) (at_row row)) (placed s) (placed t) (placed_same s t g)
  fed_same [] (q ∷ qs) s t h g row = absurd h
  fed_same (o ∷ os) [] s t h g row = absurd h
  fed_same (filter cs ∷ os) (filter ds ∷ qs) s t h g row =
      ap₂ (λ (r : Result Bool Code) (made : Flow (List Val)). flow_by r (where_true made)) (passes_same cs ds (at_row row) h.0) (fed_same os qs s t h.1 g row)
  fed_same (filter cs ∷ os) (probe q ∷ qs) s t h g row = absurd h.0
  fed_same (probe p ∷ os) (filter ds ∷ qs) s t h g row = absurd h.0
  fed_same (probe p ∷ os) (probe q ∷ qs) s t h g row = probe_same p q h.0 (fed built os s) (fed built qs t) (fed_same os qs s t h.1 g) row

  -- ---- what it takes

  met_cost_same : (p q : Probe) → IsSameProbe p q → (f g : List Val → ℕ) → ((r : List Val) → f r ≡ g r) → (row key entry : List Val) → met_cost f p row key entry ≡ met_cost g q row key entry
  met_cost_same p q h f g same row key entry =
      ap₂ (λ (n : ℕ) (x : List Val). text_octets key + (if is_same_row key (take n entry) then units_of_all p.on (at_row x) + where_passed (passes p.on (at_row x)) (f x) else 0))
      (item_count p.key q.key h.key) (pair_same p q h row entry)
      ∙ ap (λ (u : ℕ). text_octets key + (if is_same_row key (take (length q.key) entry) then u + where_passed (passes p.on (at_row (pair_of q row entry))) (f (pair_of q row entry)) else 0))
      (conjuncts_units p.on q.on (at_row (pair_of q row entry)) h.on)
      ∙ ap₂ (λ (r : Result Bool Code) (n : ℕ). text_octets key + (if is_same_row key (take (length q.key) entry) then units_of_all q.on (at_row (pair_of q row entry)) + where_passed r n else 0))
      (passes_same p.on q.on (at_row (pair_of q row entry)) h.on) (same (pair_of q row entry))

  -- the entries of a row's slot
  abbrev entries_at : Probe → List Val → List (List Val)
  entries_at p key = in_slot (keyed (length p.key)) (slot key) (get_or built p.table [])

  -- of the entries of a row's slot, and of the row by itself
  abbrev looks : (List Val → ℕ) → Probe → (row key : List Val) → ℕ
  looks f p row key = text_octets key + spend (met_cost f p row key) (entries_at p key) + alone_cost f p row key (get_or built p.table [])

  alone_cost_same : (p q : Probe) → IsSameProbe p q → (f g : List Val → ℕ) → ((r : List Val) → f r ≡ g r) → (row key : List Val)
      → alone_cost f p row key (get_or built p.table []) ≡ alone_cost g q row key (get_or built q.table [])
  alone_cost_same p q h f g same row key =
      ap₂ (λ (o b : Bool). if o then 1 + (if b then f row else 0) else 0) h.outer (alone_same p q h row key)
      ∙ ap (λ (n : ℕ). if q.outer then 1 + (if is_alone q row key (get_or built q.table []) then n else 0) else 0) (same row)

  looks_same : (p q : Probe) → IsSameProbe p q → (f g : List Val → ℕ) → ((r : List Val) → f r ≡ g r) → (row key : List Val) → looks f p row key ≡ looks g q row key
  looks_same p q h f g same row key =
      ap₂ (λ (n m : ℕ). text_octets key + n + m)
      (ap₂ (λ (k t : ℕ). spend (met_cost f p row key) (in_slot (keyed k) (slot key) (get_or built t []))) (item_count p.key q.key h.key) h.table
      ∙ spend_same (met_cost f p row key) (met_cost g q row key) (entries_at q key) (met_cost_same p q h f g same row key)) (alone_cost_same p q h f g same row key)

  probe_cost_same : (p q : Probe) → IsSameProbe p q → (f g : List Val → ℕ) → ((r : List Val) → f r ≡ g r) → (row : List Val)
      → units_of_items p.key (at_row row) + by_values (values_of p.key (at_row row)) (looks f p row) ≡ units_of_items q.key (at_row row) + by_values (values_of q.key (at_row row)) (looks g q row)
  probe_cost_same p q h f g same row =
      ap₂ (λ (u : ℕ) (r : Result (List Val) Code). u + by_values r (looks f p row)) (items_units p.key q.key (at_row row) h.key) (values_same p.key q.key (at_row row) h.key)
      ∙ ap (λ (n : ℕ). units_of_items q.key (at_row row) + n) (by_values_same (values_of q.key (at_row row)) (looks f p row) (looks g q row) (looks_same p q h f g same row))

  pub cost_same : (os qs : List Operator) (s t : Sink) → AllZip IsSameOperator os qs → IsSameSink s t → (row : List Val) → cost built os s row ≡ cost built qs t row
  cost_same [] [] s t h g row =
      ap₂ (λ (u : ℕ) (r : Result (List Val) Code). u + by_values r (λ values. text_octets (sink_key s values)))
      (items_units (sink_values s) (sink_values t) (at_row row) (sink_values_same s t g)) (values_same (sink_values s) (sink_values t) (at_row row) (sink_values_same s t g))
      ∙ ap (λ (n : ℕ). units_of_items (sink_values t) (at_row row) + n)
      (by_values_same (values_of (sink_values t) (at_row row)) (λ values. text_octets (sink_key s values)) (λ values. text_octets (sink_key t values)) (λ values. ap text_octets (sink_key_same s t g values)))
  cost_same [] (q ∷ qs) s t h g row = absurd h
  cost_same (o ∷ os) [] s t h g row = absurd h
  cost_same (filter cs ∷ os) (filter ds ∷ qs) s t h g row =
      ap₂ (λ (u n : ℕ). u + n) (conjuncts_units cs ds (at_row row) h.0)
      (ap₂ (λ (r : Result Bool Code) (n : ℕ). where_passed r n) (passes_same cs ds (at_row row) h.0) (cost_same os qs s t h.1 g row))
  cost_same (filter cs ∷ os) (probe q ∷ qs) s t h g row = absurd h.0
  cost_same (probe p ∷ os) (filter ds ∷ qs) s t h g row = absurd h.0
  cost_same (probe p ∷ os) (probe q ∷ qs) s t h g row = probe_cost_same p q h.0 (cost built os s) (cost built qs t) (cost_same os qs s t h.1 g) row

  -- ---- whole pipelines

  pub pipeline_fed_same : (tables : List (List (List Val))) (p q : Pipeline) → IsSamePipeline p q → pipeline_fed tables built p ≡ pipeline_fed tables built q
  pipeline_fed_same tables p q h =
      over_same (fed built p.operators p.sink) (fed built q.operators q.sink) (entry_flow tables p.entry p.table).rows (fed_same p.operators q.operators p.sink q.sink h.operators h.sink)
      ∙ ap₂ (λ (e t : ℕ). flow_over (fed built q.operators q.sink) (entry_flow tables e t).rows) h.entry h.table

  pub pipeline_cost_same : (tables : List (List (List Val))) (p q : Pipeline) → IsSamePipeline p q → pipeline_cost tables built p ≡ pipeline_cost tables built q
  pipeline_cost_same tables p q h =
      spend_same (cost built p.operators p.sink) (cost built q.operators q.sink) (entry_flow tables p.entry p.table).rows (cost_same p.operators q.operators p.sink q.sink h.operators h.sink)
      ∙ ap₂ (λ (e t : ℕ). spend (cost built q.operators q.sink) (entry_flow tables e t).rows) h.entry h.table

-- ---- several in order

pub built_same : (tables : List (List (List Val))) (ps qs : List Pipeline) (built more : List (List (List Val))) → AllZip IsSamePipeline ps qs → AreBuilt tables built ps more → AreBuilt tables built qs more
built_same tables [] [] built more h g = g
built_same tables [] (q ∷ qs) built more h g = absurd h
built_same tables (p ∷ ps) [] built more h g = absurd h
built_same tables (p ∷ ps) (q ∷ qs) built [] h g = absurd g
built_same tables (p ∷ ps) (q ∷ qs) built (entries ∷ more) h g =
    let same = pipeline_fed_same built tables p q h.0 in (
      subst (λ (f : Flow (List Val)). f.codes ≡ []) same g.0,
      subst (λ (f : Flow (List Val)). IsPermutation f.rows entries) same g.1,
      built_same tables ps qs (built ++ entries ∷ []) more h.1 g.2,
    )

pub costs_same : (tables : List (List (List Val))) (ps qs : List Pipeline) (built more : List (List (List Val))) → AllZip IsSamePipeline ps qs → costs tables built ps more ≡ costs tables built qs more
costs_same tables [] [] built more h = refl
costs_same tables [] (q ∷ qs) built more h = absurd h
costs_same tables (p ∷ ps) [] built more h = absurd h
costs_same tables (p ∷ ps) (q ∷ qs) built [] h = pipeline_cost_same built tables p q h.0
costs_same tables (p ∷ ps) (q ∷ qs) built (entries ∷ more) h =
    ap₂ (λ (a b : ℕ). a + b) (pipeline_cost_same built tables p q h.0) (costs_same tables ps qs (built ++ entries ∷ []) more h.1)
