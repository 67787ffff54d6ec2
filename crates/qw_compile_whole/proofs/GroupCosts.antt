-- A pipeline whose innermost block evaluates values, and takes so many units of them, takes no more than one that makes a result of these values, and so many
-- units for each row that this one feeds.
use Rattle.std.proofs.Common.{◌≡◌, ◌∙◌, ◌≤◌, ℕ, zero, suc, ◌+◌, ◌==◌, Bool, true, false, not, ◌&&◌, ◌||◌, if◌then◌else◌, get_or, take, Some, List, [], ◌∷◌, ◌++◌, length, slice_get, Result, Ok, Err, refl, sym, ap, subst, arith}
use Rattle.std.specs.List.{AllByRecursion, AllZip, filter as filter_list, list_any}
use Rattle.std.proofs.lemmas.Option.{same_Some}
use Rattle.qw_types.specs.ValueOrder.{is_same_row}
use Rattle.qw_types.specs.declared.code.Code.{Code}
use Rattle.qw_types.specs.declared.value.Val.{Val}
use Rattle.qw_layout.specs.Hash.{slot}
use Rattle.qw_scalar.specs.Conjuncts.{passes}
use Rattle.qw_scalar.specs.Evaluation.{at_row}
use Rattle.qw_scalar.specs.Expression.{Expression}
use Rattle.qw_scalar.specs.Same.{IsSame}
use Rattle.qw_scalar.specs.Units.{units_of_all, units_of_items}
use Rattle.qw_meaning.specs.Flow.{Flow, values_of}
use Rattle.qw_meaning.specs.From.{entry_flow}
use Rattle.qw_feed.specs.Feeds.{flow_by, flow_over, nothing, spend, where_true}
use Rattle.qw_table.specs.Joins.{have_values, keyed, where_values}
use Rattle.qw_table.specs.Keys.{text_octets}
use Rattle.qw_table.specs.Tables.{in_slot}
use Rattle.qw_physical.specs.Courses.{alone_cost, by_values, cost, fed, is_alone, isnt_failed, meets, met, met_cost, pair_of, pipeline_cost, pipeline_fed, placed, sink_key, where_passed}
use Rattle.qw_physical.specs.Physical.{Operator, Pipeline, Probe, Sink, build, filter, probe, select}
use Rattle.qw_physical.specs.Sides.{IsEntryOf, IsMadeFor}
use Rattle.qw_physical.specs.Spelled.{IsSamePipeline, IsSameSink}
use Rattle.qw_algebra.proofs.Lists.{all_more}
use Rattle.qw_operator.proofs.Served.{AreServed, built_at, same_keys}
use Rattle.qw_operator.proofs.Stood.{Stood, all_entries, built_of}
use Rattle.qw_operator.specs.Costs.{cost_to, pipeline_cost_to}
use Rattle.qw_compile.proofs.PipelineRuns.{AreStood, HasStood}
use Rattle.qw_compile_whole.proofs.GroupTotals.{total, total_append}

-- ---- a row

-- the entries of tables that are looked up have keys without nulls
abbrev pub ArePresent : (built : List (List (List Val))) → List Operator → Type 0
ArePresent built [] = Unit {0}
ArePresent built (filter cs ∷ operators) = ArePresent built operators
ArePresent built (probe p ∷ operators) = AllByRecursion (λ (e : List Val). have_values (take (length p.key) e) ≡ true) (get_or built p.table []) × ArePresent built operators

module _ (turn : List Val → ℕ) where
  ended : (values : List Expression) (n : ℕ) (q : Result (List Val) Code) → n + by_values q turn ≤ (n + by_values q (λ vs. text_octets (sink_key (select values) vs))) + total turn (flow_by q (placed (select values))).rows
  ended values n (Ok vs) = omega arith
  ended values n (Err code) = omega arith

  passed : (u a b : ℕ) (r : Result Bool Code) (f : Flow (List Val)) → a ≤ b + total turn f.rows → u + where_passed r a ≤ (u + where_passed r b) + total turn (flow_by r (where_true f)).rows
  passed u a b (Ok true) f h = omega (arith, h)
  passed u a b (Ok false) f h = omega arith
  passed u a b (Err code) f h = omega arith

  met_one : (same : Bool) (t u a b : ℕ) (r : Result Bool Code) (f : Flow (List Val)) → a ≤ b + total turn f.rows
      → t + (if same then u + where_passed r a else 0) ≤ (t + (if same then u + where_passed r b else 0)) + total turn (if same then flow_by r (where_true f) else nothing).rows
  met_one true t u a b r f h = let one = passed u a b r f h in omega (arith, one)
  met_one false t u a b r f h = omega arith

  -- ---- a lookup, where after it each row that goes on takes so much, C, and D without what is made of it

  module _ (p : Probe) (row key : List Val) (C D : List Val → ℕ) (F : List Val → Flow (List Val)) (each : (r : List Val) → C r ≤ D r + total turn (F r).rows) where
    met_less : (e : List Val) → met_cost C p row key e ≤ met_cost D p row key e + total turn (met F p row key e).rows
    met_less e =
        met_one (is_same_row key (take (length p.key) e)) (text_octets key) (units_of_all p.on (at_row (pair_of p row e))) (C (pair_of p row e)) (D (pair_of p row e)) (passes p.on (at_row (pair_of p row e))) (F (pair_of p row e)) (each (pair_of p row e))

    slot_less : (test : List Val → Bool) (es : List (List Val)) → spend (met_cost C p row key) (filter_list test es) ≤ spend (met_cost D p row key) (filter_list test es) + total turn (flow_over (met F p row key) es).rows
    slot_less test [] = omega arith
    slot_less test (e ∷ es) = one (test e) (slot_less test es)
      where
        one : (b : Bool) → spend (met_cost C p row key) (filter_list test es) ≤ spend (met_cost D p row key) (filter_list test es) + total turn (flow_over (met F p row key) es).rows
            → spend (met_cost C p row key) (if b then e ∷ filter_list test es else filter_list test es)
            ≤ spend (met_cost D p row key) (if b then e ∷ filter_list test es else filter_list test es) + total turn (flow_over (met F p row key) (e ∷ es)).rows
        one true h = let both = total_append turn (met F p row key e).rows (flow_over (met F p row key) es).rows in let own = met_less e in omega (arith, h, both, own)
        one false h = let both = total_append turn (met F p row key e).rows (flow_over (met F p row key) es).rows in omega (arith, h, both)

    -- a key with a null is that of no entry
    none_same : (e : List Val) → have_values key ≡ false → have_values (take (length p.key) e) ≡ true → is_same_row key (take (length p.key) e) ≡ false
    none_same e none some = one (is_same_row key (take (length p.key) e)) refl
      where
        differs : (b : Bool) → b ≡ false → b ≡ true → ⊥
        differs true is isnt = cc
        differs false is isnt = cc

        one : (b : Bool) → is_same_row key (take (length p.key) e) ≡ b → b ≡ false
        one false is = refl
        one true is = absurd (differs (have_values key) none (ap have_values (same_keys key (take (length p.key) e) is) ∙ some))

    slot_none : (test : List Val → Bool) (es : List (List Val)) → have_values key ≡ false → AllByRecursion (λ (e : List Val). have_values (take (length p.key) e) ≡ true) es
        → spend (met_cost C p row key) (filter_list test es) ≡ spend (met_cost D p row key) (filter_list test es)
    slot_none test [] none some = refl
    slot_none test (e ∷ es) none some = one (test e) (slot_none test es none some.1)
      where
        same : met_cost C p row key e ≡ met_cost D p row key e
        same =
            let not_met = none_same e none some.0 in
            ap (λ (b : Bool). text_octets key + (if b then units_of_all p.on (at_row (pair_of p row e)) + where_passed (passes p.on (at_row (pair_of p row e))) (C (pair_of p row e)) else 0)) not_met
            ∙ sym (ap (λ (b : Bool). text_octets key + (if b then units_of_all p.on (at_row (pair_of p row e)) + where_passed (passes p.on (at_row (pair_of p row e))) (D (pair_of p row e)) else 0)) not_met)

        one : (b : Bool) → spend (met_cost C p row key) (filter_list test es) ≡ spend (met_cost D p row key) (filter_list test es)
            → spend (met_cost C p row key) (if b then e ∷ filter_list test es else filter_list test es) ≡ spend (met_cost D p row key) (if b then e ∷ filter_list test es else filter_list test es)
        one true h = omega (arith, h, same)
        one false h = h

    keyed_less : (test : List Val → Bool) (es : List (List Val)) → AllByRecursion (λ (e : List Val). have_values (take (length p.key) e) ≡ true) es
        → spend (met_cost C p row key) (filter_list test es) ≤ spend (met_cost D p row key) (filter_list test es) + total turn (where_values (flow_over (met F p row key) es) key).rows
    keyed_less test es some = one (have_values key) refl
      where
        one : (b : Bool) → have_values key ≡ b
            → spend (met_cost C p row key) (filter_list test es) ≤ spend (met_cost D p row key) (filter_list test es) + total turn (if b then flow_over (met F p row key) es else nothing).rows
        one true is = slot_less test es
        one false is = let same = slot_none test es is some in omega (arith, same)

    -- where the row goes on by itself, no entry lets it go on
    either_none : (a b : Bool) → (a || b) ≡ false → (a ≡ false) × (b ≡ false)
    either_none true b none = absurd cc
    either_none false b none = (refl, none)

    met_same : (b : Bool) (r : Result Bool Code) (u c d : ℕ) → (b && isnt_failed r) ≡ false → text_octets key + (if b then u + where_passed r c else 0) ≡ text_octets key + (if b then u + where_passed r d else 0)
    met_same false r u c d none = refl
    met_same true (Ok true) u c d none = absurd cc
    met_same true (Ok false) u c d none = refl
    met_same true (Err code) u c d none = absurd cc

    slot_failed : (test : List Val → Bool) (es : List (List Val)) → list_any (meets p row key) es ≡ false → spend (met_cost C p row key) (filter_list test es) ≡ spend (met_cost D p row key) (filter_list test es)
    slot_failed test [] none = refl
    slot_failed test (e ∷ es) none = one (test e) (slot_failed test es (either_none (meets p row key e) (list_any (meets p row key) es) none).1)
      where
        same : met_cost C p row key e ≡ met_cost D p row key e
        same = met_same (is_same_row key (take (length p.key) e)) (passes p.on (at_row (pair_of p row e))) (units_of_all p.on (at_row (pair_of p row e))) (C (pair_of p row e)) (D (pair_of p row e))
            (either_none (meets p row key e) (list_any (meets p row key) es) none).0

        one : (b : Bool) → spend (met_cost C p row key) (filter_list test es) ≡ spend (met_cost D p row key) (filter_list test es)
            → spend (met_cost C p row key) (if b then e ∷ filter_list test es else filter_list test es) ≡ spend (met_cost D p row key) (if b then e ∷ filter_list test es else filter_list test es)
        one true h = omega (arith, h, same)
        one false h = h

    slot_alone : (test : List Val → Bool) (es : List (List Val)) → AllByRecursion (λ (e : List Val). have_values (take (length p.key) e) ≡ true) es → (have_values key && list_any (meets p row key) es) ≡ false
        → spend (met_cost C p row key) (filter_list test es) ≡ spend (met_cost D p row key) (filter_list test es)
    slot_alone test es some none = one (have_values key) refl none
      where
        one : (b : Bool) → have_values key ≡ b → (b && list_any (meets p row key) es) ≡ false → spend (met_cost C p row key) (filter_list test es) ≡ spend (met_cost D p row key) (filter_list test es)
        one true is none = slot_failed test es none
        one false is none = slot_none test es is some

    -- a probe, whose row goes on by itself or with entries
    looked_less : (test : List Val → Bool) (es : List (List Val)) → AllByRecursion (λ (e : List Val). have_values (take (length p.key) e) ≡ true) es
        → spend (met_cost C p row key) (filter_list test es) + alone_cost C p row key es
        ≤ (spend (met_cost D p row key) (filter_list test es) + alone_cost D p row key es) + total turn (if is_alone p row key es then F row else where_values (flow_over (met F p row key) es) key).rows
    looked_less test es some = by_outer p.outer (have_values key && list_any (meets p row key) es) refl
      where
        by_outer : (outer found : Bool) → (have_values key && list_any (meets p row key) es) ≡ found
            → spend (met_cost C p row key) (filter_list test es) + (if outer then 1 + (if outer && not found then C row else 0) else 0)
            ≤ (spend (met_cost D p row key) (filter_list test es) + (if outer then 1 + (if outer && not found then D row else 0) else 0))
            + total turn (if outer && not found then F row else where_values (flow_over (met F p row key) es) key).rows
        by_outer false found is = let less = keyed_less test es some in omega (arith, less)
        by_outer true true is = let less = keyed_less test es some in omega (arith, less)
        by_outer true false is = let same = slot_alone test es some is in let own = each row in omega (arith, same, own)

  probe_less : (p : Probe) (row : List Val) (C D : List Val → ℕ) (F : List Val → Flow (List Val)) → ((r : List Val) → C r ≤ D r + total turn (F r).rows) → (es : List (List Val)) → AllByRecursion (λ (e : List Val). have_values (take (length p.key) e) ≡ true) es
      → (k : ℕ) (q : Result (List Val) Code)
      → k + by_values q (λ key. text_octets key + spend (met_cost C p row key) (in_slot (keyed (length p.key)) (slot key) es) + alone_cost C p row key es)
      ≤ (k + by_values q (λ key. text_octets key + spend (met_cost D p row key) (in_slot (keyed (length p.key)) (slot key) es) + alone_cost D p row key es))
      + total turn (flow_by q (λ key. if is_alone p row key es then F row else where_values (flow_over (met F p row key) es) key)).rows
  probe_less p row C D F each es some k (Ok key) = let less = looked_less p row key C D F each (λ (v : List Val). keyed (length p.key) v == slot key) es some in omega (arith, less)
  probe_less p row C D F each es some k (Err code) = omega arith

-- ---- a pipeline

module _ (values : List Expression) (turn : List Val → ℕ) (built : List (List (List Val))) where
  pub cost_to_less : (operators : List Operator) (row : List Val) → ArePresent built operators → cost_to values turn built operators row ≤ cost built operators (select values) row + total turn (fed built operators (select values) row).rows
  cost_to_less [] row some = ended turn values (units_of_items values (at_row row)) (values_of values (at_row row))
  cost_to_less (filter cs ∷ operators) row some =
      passed turn (units_of_all cs (at_row row)) (cost_to values turn built operators row) (cost built operators (select values) row) (passes cs (at_row row)) (fed built operators (select values) row) (cost_to_less operators row some)
  cost_to_less (probe p ∷ operators) row some =
      probe_less turn p row (cost_to values turn built operators) (cost built operators (select values)) (fed built operators (select values)) (λ r. cost_to_less operators r some.1) (get_or built p.table []) some.0 (units_of_items p.key (at_row row)) (values_of p.key (at_row row))

  rows_less : (operators : List Operator) (rows : List (List Val)) → ArePresent built operators
      → spend (cost_to values turn built operators) rows ≤ spend (cost built operators (select values)) rows + total turn (flow_over (fed built operators (select values)) rows).rows
  rows_less operators [] some = omega arith
  rows_less operators (row ∷ rows) some =
      let own = cost_to_less operators row some in
      let rest = rows_less operators rows some in
      let both = total_append turn (fed built operators (select values) row).rows (flow_over (fed built operators (select values)) rows).rows in
      omega (arith, own, rest, both)

  pub pipeline_to_less : (tables : List (List (List Val))) (p : Pipeline) → p.sink ≡ select values → ArePresent built p.operators
      → pipeline_cost_to values turn tables built p ≤ pipeline_cost tables built p + total turn (pipeline_fed tables built p).rows
  pipeline_to_less tables p is some =
      subst (λ (s : Sink). pipeline_cost_to values turn tables built p ≤ spend (cost built p.operators s) (entry_flow tables p.entry p.table).rows + total turn (flow_over (fed built p.operators s) (entry_flow tables p.entry p.table).rows).rows) (sym is)
      (rows_less p.operators (entry_flow tables p.entry p.table).rows some)

-- ---- tables that stand

-- no entry has a null in its key
abbrev pub HasKeys : Stood → Type 0
HasKeys st = AllByRecursion (λ (e : List Val). have_values (take st.fields e) ≡ true) (all_entries st.chains)

stood_at : (stoods : List Stood) (t : ℕ) (st : Stood) → AllByRecursion HasKeys stoods → slice_get stoods t ≡ Some st → HasKeys st
stood_at [] t st all there = absurd cc
stood_at (one ∷ stoods) zero st all there = subst HasKeys (same_Some one st there) all.0
stood_at (one ∷ stoods) (suc t) st all there = stood_at stoods t st all.1 there

pub present_served : (stoods : List Stood) → AllByRecursion HasKeys stoods → (operators : List Operator) → AreServed stoods operators → ArePresent (built_of stoods) operators
present_served stoods all [] served = tt
present_served stoods all (filter cs ∷ operators) served = present_served stoods all operators served
present_served stoods all (probe p ∷ operators) served = (
  subst (AllByRecursion (λ (e : List Val). have_values (take (length p.key) e) ≡ true)) (sym (built_at stoods p.table served.0.0 served.0.1))
      (subst (λ (n : ℕ). AllByRecursion (λ (e : List Val). have_values (take n e) ≡ true) (all_entries served.0.0.chains)) served.0.2.fields (stood_at stoods p.table served.0.0 all served.0.1)),
  present_served stoods all operators served.1,
)

keys_long : (es fs : List Expression) → AllZip IsSame es fs → length es ≡ length fs
keys_long [] [] z = refl
keys_long [] (f ∷ fs) z = absurd z
keys_long (e ∷ es) [] z = absurd z
keys_long (e ∷ es) (f ∷ fs) z = ap suc (keys_long es fs z.1)

module _ (tables : List (List (List Val))) where
  one_has : (q p : Pipeline) (before : List Stood) (st : Stood) → IsSamePipeline q p → HasStood tables before p st → AllByRecursion (IsMadeFor q.sink) (all_entries st.chains) → HasKeys st
  one_has q p before st is h made = one q.sink (subst (IsSameSink q.sink) h.sink_is is.sink) made
    where
      one : (s : Sink) → IsSameSink s (build h.made) → AllByRecursion (IsMadeFor s) (all_entries st.chains) → HasKeys st
      one (build b) z all =
          subst (λ (n : ℕ). AllByRecursion (λ (e : List Val). have_values (take n e) ≡ true) (all_entries st.chains)) (keys_long b.key h.made.key z.key ∙ sym h.fields_are)
          (all_more (IsEntryOf b) (λ (e : List Val). have_values (take (length b.key) e) ≡ true) (all_entries st.chains) (λ e m. m.present) all)
      one (select items) z all = absurd z

  pub stoods_have : (qs ps : List Pipeline) (stoods before : List Stood) → AllZip IsSamePipeline qs ps → AreStood tables before ps stoods
      → AllZip (λ (q : Pipeline) (entries : List (List Val)). AllByRecursion (IsMadeFor q.sink) entries) qs (built_of stoods) → AllByRecursion HasKeys stoods
  stoods_have [] [] [] before zip are made = tt
  stoods_have [] [] (st ∷ stoods) before zip are made = absurd are
  stoods_have [] (p ∷ ps) stoods before zip are made = absurd zip
  stoods_have (q ∷ qs) [] stoods before zip are made = absurd zip
  stoods_have (q ∷ qs) (p ∷ ps) [] before zip are made = absurd are
  stoods_have (q ∷ qs) (p ∷ ps) (st ∷ stoods) before zip are made =
      (one_has q p before st zip.0 are.0 made.0, stoods_have qs ps stoods (before ++ st ∷ []) zip.1 are.1 made.1)
