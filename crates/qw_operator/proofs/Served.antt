-- The tables that a pipeline's lookups are served by, and the entries that have a key.
use Rattle.std.proofs.Common.{◌≡◌, ℕ, zero, suc, ◌+◌, ◌<◌, ◌==◌, ◌&&◌, ◌||◌, not, if◌then◌else◌, Bool, true, false, cond, sum_by, Option, Some, None, List, [], ◌∷◌, ◌++◌, drop, get_or, length, map, take, Result, Ok, Err, slice_get, refl, sym, ap, ap₂, ◌∙◌, arith}
use Rattle.std.proofs.lemmas.Bool.{eq-eqb, eqb-true}
use Rattle.std.proofs.lemmas.List.Sorted.{sum_by-IsPermutation}
use Rattle.std.proofs.lemmas.List.Sums.{sum_by-cons}
use Rattle.std.specs.List.{AllByRecursion, list_any}
use Rattle.qw_types.specs.Kind.{type_kind}
use Rattle.qw_types.specs.ValueOrder.{is_same_row}
use Rattle.qw_types.specs.declared.code.Code.{Code}
use Rattle.qw_types.specs.declared.kind.Kind.{Kind}
use Rattle.qw_types.specs.declared.value.Val.{Val}
use Rattle.qw_types.proofs.ValueOrderLemmas.{rows}
use Rattle.qw_layout.specs.Hash.{slot}
use Rattle.qw_meaning.specs.Flow.{Flow}
use Rattle.qw_scalar.specs.Conjuncts.{passes}
use Rattle.qw_scalar.specs.Evaluation.{at_row}
use Rattle.qw_scalar.specs.Typing.{kind_of}
use Rattle.qw_low.specs.State.{Cells}
use Rattle.qw_feed.specs.Cells.{kinds_of}
use Rattle.qw_feed.specs.Feeds.{nothing, flow_by, flow_over, spend, where_true}
use Rattle.qw_feed.specs.Rows.{Row}
use Rattle.qw_table.specs.Joins.{have_values, keyed, sources_of, where_equal}
use Rattle.qw_table.specs.Outer.{is_met, pass_or_raise, stands_alone}
use Rattle.qw_table.specs.Tables.{IsTable, in_slot, values_of}
use Rattle.qw_table.proofs.JoinFeeds.{slot-low}
use Rattle.qw_physical.specs.Courses.{is_alone, isnt_failed, meets, met, pair_of}
use Rattle.qw_physical.specs.Physical.{Operator, Probe, filter as filter_by, probe}
use Rattle.qw_physical.specs.declared.pipeline.ReadColumn.{ReadColumn}
use Rattle.qw_operator.proofs.PairRows.{AreStored}
use Rattle.qw_operator.proofs.Stood.{Stood, ArePlaced, all_entries, built_of, flow_in, flow_values, slot_entries, spend_values}

-- a probe's table is this one: of its key and its kept columns
pub record Serves (p : Probe) (st : Stood) : Type 0 where
  pub fields : st.fields ≡ length p.key
  pub kinds : kinds_of (sources_of st.cells) ≡ map kind_of p.key ++ map (λ (c : ReadColumn). let k : Option Kind = Some (type_kind c.ty) in k) p.kept
  pub stored : (j : ℕ) → j < 1024 → AllByRecursion (λ (e : Row). AreStored p.kept (drop (length p.key) e.values)) (st.chains j)

abbrev pub AreServed : List Stood → List Operator → Type 0
AreServed stoods [] = Unit {0}
AreServed stoods (filter_by cs ∷ operators) = AreServed stoods operators
AreServed stoods (probe p ∷ operators) = ((st : Stood) × (slice_get stoods p.table ≡ Some st) × Serves p st) × AreServed stoods operators

-- ---- keys that aren't distinct are equal
pub same_keys : (key other : List Val) → is_same_row key other ≡ true → key ≡ other
same_keys key other h = rows key other h

-- ---- each entry is in its chain
abbrev missed : Bool → ℕ
missed true = 0
missed false = 1

none_missed : (slot_of : List Val → ℕ) (j : ℕ) (vs : List (List Val)) → sum_by (λ (v : List Val). missed (slot_of v == j)) (in_slot slot_of j vs) ≡ 0
none_missed slot_of j [] = refl
none_missed slot_of j (v ∷ vs) = one (slot_of v == j) refl (in_slot slot_of j vs) (none_missed slot_of j vs)
  where
    one : (b : Bool) → (slot_of v == j) ≡ b → (ws : List (List Val)) → sum_by (λ (w : List Val). missed (slot_of w == j)) ws ≡ 0 → sum_by (λ (w : List Val). missed (slot_of w == j)) (cond b (v ∷ ws) ws) ≡ 0
    one true is ws rest =
        let first : missed (slot_of v == j) ≡ 0 = ap missed is in
        sum_by-cons (λ (w : List Val). missed (slot_of w == j)) v ws ∙ ap₂ (λ (x y : ℕ). x + y) first rest
    one false is ws rest = rest

not_missed : (b : Bool) → missed b ≡ 0 → b ≡ true
not_missed true none = refl
not_missed false none = absurd cc

each_there : (slot_of : List Val → ℕ) (j : ℕ) (es : List Row) → sum_by (λ (v : List Val). missed (slot_of v == j)) (values_of es) ≡ 0 → AllByRecursion (λ (e : Row). slot_of e.values ≡ j) es
each_there slot_of j [] none = tt
each_there slot_of j (e ∷ es) none =
    let more : missed (slot_of e.values == j) + sum_by (λ (v : List Val). missed (slot_of v == j)) (values_of es) ≡ 0 = sym (sum_by-cons (λ (v : List Val). missed (slot_of v == j)) e.values (values_of es)) ∙ none in
    let first : missed (slot_of e.values == j) ≡ 0 = omega (arith, more) in
    let rest : sum_by (λ (v : List Val). missed (slot_of v == j)) (values_of es) ≡ 0 = omega (arith, more) in (
      eqb-true (slot_of e.values) j (not_missed (slot_of e.values == j) first),
      each_there slot_of j es rest,
    )

pub table_placed : (Has : Cells → ℕ → ℕ → List Val → Type 0) (slot_of : List Val → ℕ) (size k o front : ℕ) (chains : ℕ → List Row) (entries : List (List Val)) (c : Cells) (own : List ℕ) → IsTable Has slot_of size k o front chains entries c own →
    (j : ℕ) → j < 1024 → ArePlaced slot_of chains j
table_placed Has slot_of size k o front chains entries c own table j low =
    let miss : List Val → ℕ = λ (v : List Val). missed (slot_of v == j) in
    let count : sum_by miss (in_slot slot_of j entries) ≡ sum_by miss (values_of (chains j)) = sum_by-IsPermutation miss (values_of (chains j)) (in_slot slot_of j entries) (table.same j low) in
    each_there slot_of j (chains j) (sym count ∙ none_missed slot_of j entries)

-- ---- what comes of a lookup
pub built_at : (stoods : List Stood) (t : ℕ) (st : Stood) → slice_get stoods t ≡ Some st → get_or (built_of stoods) t [] ≡ all_entries st.chains
built_at [] t st there = absurd cc
built_at (first ∷ stoods) zero st there = ap (λ (o : Option Stood). chains_of o) there
  where
    chains_of : Option Stood → List (List Val)
    chains_of None = []
    chains_of (Some x) = all_entries x.chains
built_at (first ∷ stoods) (suc t) st there = built_at stoods t st there

module _ (p : Probe) (row key : List Val) (stoods : List Stood) (st : Stood) (there : slice_get stoods p.table ≡ Some st) (placed : (j : ℕ) → j < 1024 → ArePlaced (keyed (length p.key)) st.chains j) where
  abbrev n : ℕ
  n = length p.key

  abbrev es : List Row
  es = st.chains (slot key)

  of_slot : in_slot (keyed n) (slot key) (get_or (built_of stoods) p.table []) ≡ values_of es
  of_slot = ap (in_slot (keyed n) (slot key)) (built_at stoods p.table st there) ∙ slot_entries (keyed n) st.chains placed (slot key) (slot-low key)

  pub slot_spent : (u : List Val → ℕ) → spend u (in_slot (keyed n) (slot key) (get_or (built_of stoods) p.table [])) ≡ spend (λ (e : Row). u e.values) es
  slot_spent u = ap (spend u) of_slot ∙ spend_values u es

  differs : (b : Bool) → b ≡ true → b ≡ false → ⊥
  differs true so isnt = cc
  differs false so isnt = cc

  module _ (fed : List Val → Flow (List Val)) where
    abbrev one : List Val → Flow (List Val)
    one = met fed p row key

    elsewhere : (v : List Val) → (keyed n v == slot key) ≡ false → one v ≡ nothing
    elsewhere v other = by_test (is_same_row key (take n v)) refl
      where
        by_test : (b : Bool) → is_same_row key (take n v) ≡ b → (if b then flow_by (passes p.on (at_row (pair_of p row v))) (where_true (fed (pair_of p row v))) else nothing) ≡ nothing
        by_test true is = absurd (differs (keyed n v == slot key) (eq-eqb (keyed n v) (slot key) (ap slot (sym (same_keys key (take n v) is)))) other)
        by_test false is = refl

    pub slot_met : (fields : ℕ) → fields ≡ n →
        flow_over (met fed p row key) (get_or (built_of stoods) p.table []) ≡ flow_over (where_equal fields (λ v. flow_by (passes p.on (at_row (pair_of p row v))) (where_true (fed (pair_of p row v)))) key) es
    slot_met fields same =
        flow_in (keyed n) st.chains (slot key) one elsewhere (get_or (built_of stoods) p.table [])
        ∙ (ap (flow_over one) of_slot
        ∙ (flow_values one es
        ∙ ap (λ (m : ℕ). flow_over (where_equal m (λ v. flow_by (passes p.on (at_row (pair_of p row v))) (where_true (fed (pair_of p row v)))) key) es) (sym same)))

  -- ---- whether the row stands alone
  abbrev meets_it : List Val → Bool
  meets_it = meets p row key

  misses : (v : List Val) → (keyed n v == slot key) ≡ false → meets_it v ≡ false
  misses v other = by_test (is_same_row key (take n v)) refl
    where
      by_test : (b : Bool) → is_same_row key (take n v) ≡ b → b && isnt_failed (passes p.on (at_row (pair_of p row v))) ≡ false
      by_test true is = absurd (differs (keyed n v == slot key) (eq-eqb (keyed n v) (slot key) (ap slot (sym (same_keys key (take n v) is)))) other)
      by_test false is = refl

  any_there : (vs : List (List Val)) → list_any meets_it vs ≡ list_any meets_it (in_slot (keyed n) (slot key) vs)
  any_there [] = refl
  any_there (v ∷ vs) = one (keyed n v == slot key) refl (in_slot (keyed n) (slot key) vs) (any_there vs)
    where
      one : (b : Bool) → (keyed n v == slot key) ≡ b → (ws : List (List Val)) → list_any meets_it vs ≡ list_any meets_it ws → meets_it v || list_any meets_it vs ≡ list_any meets_it (cond b (v ∷ ws) ws)
      one true is ws same = ap (λ (b : Bool). meets_it v || b) same
      one false is ws same = ap (λ (b : Bool). b || list_any meets_it vs) (misses v is) ∙ same

  abbrev passed : List Val → Result Bool Code
  passed v = passes p.on (at_row (pair_of p row v))

  neither_failed : (r : Result Bool Code) → isnt_failed r ≡ pass_or_raise r
  neither_failed (Ok b) = refl
  neither_failed (Err code) = refl

  any_met : (vs : List (List Val)) → list_any meets_it vs ≡ list_any (is_met n passed key) vs
  any_met [] = refl
  any_met (v ∷ vs) = ap₂ (λ (b c : Bool). (is_same_row key (take n v) && b) || c) (neither_failed (passed v)) (any_met vs)

  -- of all entries of the table, by those of the slot alone
  pub slot_alone : p.outer ≡ true → (fields : ℕ) → fields ≡ n → is_alone p row key (get_or (built_of stoods) p.table []) ≡ stands_alone fields passed key (values_of es)
  slot_alone outer fields same =
      ap (λ (b : Bool). b && not (have_values key && list_any meets_it (get_or (built_of stoods) p.table []))) outer
      ∙ (ap (λ (b : Bool). not (have_values key && b)) (any_there (get_or (built_of stoods) p.table []) ∙ (ap (list_any meets_it) of_slot ∙ any_met (values_of es)))
      ∙ ap (λ (m : ℕ). stands_alone m passed key (values_of es)) (sym same))
