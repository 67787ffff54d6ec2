-- The tables that earlier pipelines built serve a pipeline's lookups, and the columns that its lookups keep are apart.
use Rattle.std.proofs.Common.{◌≡◌, ◌≢◌, ℕ, zero, suc, ◌+◌, ◌<◌, ◌≤◌, ◌==◌, ◌||◌, Bool, true, false, nat_eq, cond, Some, List, [], ◌∷◌, ◌++◌, drop, length, map, slice_get, refl, sym, ap, ◌∙◌, subst, arith}
use Rattle.std.proofs.lemmas.Bool.{eq-eqb, eqb-true, or_left, or_right}
use Rattle.std.proofs.lemmas.Option.{same_Some}
use Rattle.std.specs.List.{AllByRecursion, AllZip, filter as filtered, list_any}
use Rattle.qw_types.specs.Value.{IsOfTypeOrNull}
use Rattle.qw_types.specs.declared.value.Val.{Val}
use Rattle.qw_types.specs.declared.value.Val.TheVariants as val
use Rattle.qw_map.proofs.AreaLemmas.{all-append}
use Rattle.qw_scalar.specs.Columns.{HasColumns}
use Rattle.qw_scalar.specs.Expression.{Expression}
use Rattle.qw_scalar.specs.Same.{IsSame}
use Rattle.qw_scalar.specs.Typing.{HasKind, kind_of}
use Rattle.qw_scalar.proofs.ColumnLemmas.{columns_more}
use Rattle.qw_expr.specs.Computes.{Known}
use Rattle.qw_feed.specs.Rows.{Row}
use Rattle.qw_table.specs.Tables.{values_of}
use Rattle.qw_physical.specs.Courses.{sink_values}
use Rattle.qw_physical.specs.Physical.{Build, Operator, Pipeline, Sink, build, filter, probe, select}
use Rattle.qw_physical.specs.Spelled.{IsSameOperator}
use Rattle.qw_physical.specs.declared.pipeline.ReadColumn.{ReadColumn}
use Rattle.qw_physical.proofs.ServedBy.{AreServedBy, KeepParts}
use Rattle.qw_operator.specs.Takes.{anywhere}
use Rattle.qw_operator.proofs.BuiltServes.{IsStoredEntry, serves_built}
use Rattle.qw_leaves.proofs.Agreement.{value_at}
use Rattle.qw_operator.proofs.PairRows.{AreApart, AreDistinct, AreNew, AreStored, IsNullAt, held_typed}
use Rattle.qw_operator.proofs.Fronts.{all_more}
use Rattle.qw_leaves.proofs.LeafLists.{all_back, all_front}
use Rattle.qw_operator.proofs.Served.{AreServed}
use Rattle.qw_operator.proofs.SinkFeeds.{fields_of}
use Rattle.qw_operator.proofs.Stood.{Stood, all_entries, all_entries_are, entries_from}

-- ---- tables that stand for pipelines
-- a table that a pipeline built: it has its cells, and its entries have values of the columns that are kept
pub record IsStoodOf (p : Pipeline) (st : Stood) : Type 0 where
  pub made : Build
  pub sink_is : p.sink ≡ build made
  pub fields_are : st.fields ≡ length made.key
  pub cells_are : st.cells ≡ fields_of (sink_values (build made))
  pub kinds : AllByRecursion HasKind (sink_values (build made))
  pub stored : AllByRecursion (IsStoredEntry (length made.key) made.kept) (all_entries st.chains)

by_rows : (P : List Val → Type 0) (es : List Row) → AllByRecursion P (values_of es) → AllByRecursion (λ (e : Row). P e.values) es
by_rows P [] all = tt
by_rows P (e ∷ es) all = (all.0, by_rows P es all.1)

chain_or : (P : List Val → Type 0) (chains : ℕ → List Row) (a n j : ℕ) → a ≤ j → AllByRecursion P (entries_from chains a (suc n)) → (a < j → AllByRecursion P (entries_from chains (suc a) n) → AllByRecursion (λ (e : Row). P e.values) (chains j)) → (b : Bool) → (a == j) ≡ b →
    AllByRecursion (λ (e : Row). P e.values) (chains j)
chain_or P chains a n j low all further true is = subst (λ (i : ℕ). AllByRecursion (λ (e : Row). P e.values) (chains i)) (eqb-true a j is) (by_rows P (chains a) (all_front P (values_of (chains a)) (entries_from chains (suc a) n) all))
chain_or P chains a n j low all further false is =
    let other : a ≡ j → ⊥ = λ e. differs (a == j) (eq-eqb a j e) is in
    further (omega (arith, low, other)) (all_back P (values_of (chains a)) (entries_from chains (suc a) n) all)
  where
    differs : (b : Bool) → b ≡ true → b ≡ false → ⊥
    differs true so isnt = cc
    differs false so isnt = cc

chain_of : (P : List Val → Type 0) (chains : ℕ → List Row) (a n j : ℕ) → a ≤ j → j < a + n → AllByRecursion P (entries_from chains a n) → AllByRecursion (λ (e : Row). P e.values) (chains j)
chain_of P chains a zero j low high all = absurd (omega (arith, low, high))
chain_of P chains a (suc n) j low high all = chain_or P chains a n j low all (λ less rest. chain_of P chains (suc a) n j (omega (arith, less)) (omega (arith, high)) rest) (a == j) refl

-- what all entries have, those of each chain have
pub chain_has : (P : List Val → Type 0) (chains : ℕ → List Row) → AllByRecursion P (all_entries chains) → (j : ℕ) → j < 1024 → AllByRecursion (λ (e : Row). P e.values) (chains j)
chain_has P chains all j low = chain_of P chains 0 1024 j (omega arith) (omega (arith, low)) (subst (AllByRecursion P) (all_entries_are chains) all)

built_of_sink : Sink → Build → Build
built_of_sink (build b) other = b
built_of_sink (select items) other = other

same_built : (b c : Build) → (let s : Sink = build b in s) ≡ build c → b ≡ c
unfolding built_of_sink
same_built b c is = ap (λ (s : Sink). built_of_sink s b) is

stood_at : (front : List Pipeline) (stoods : List Stood) (t : ℕ) (f : Pipeline) → AllZip IsStoodOf front stoods → slice_get front t ≡ Some f → (st : Stood) × (slice_get stoods t ≡ Some st) × IsStoodOf f st
stood_at [] [] t f zip there = absurd cc
stood_at [] (st ∷ stoods) t f zip there = absurd zip
stood_at (x ∷ front) [] t f zip there = absurd zip
stood_at (x ∷ front) (st ∷ stoods) zero f zip there = (st, refl, subst (λ (y : Pipeline). IsStoodOf y st) (same_Some x f there) zip.0)
stood_at (x ∷ front) (st ∷ stoods) (suc t) f zip there = stood_at front stoods t f zip.1 there

pub front_serves : (front : List Pipeline) (stoods : List Stood) (operators : List Operator) → AllZip IsStoodOf front stoods → AreServedBy front operators → AreServed stoods operators
front_serves front stoods [] zip served = tt
front_serves front stoods (filter cs ∷ operators) zip served = front_serves front stoods operators zip served
front_serves front stoods (probe p ∷ operators) zip served =
    let one = stood_at front stoods p.table served.0.0 zip served.0.2 in
    let st : Stood = one.0 in
    let same : one.2.made ≡ served.0.1 = same_built one.2.made served.0.1 (sym one.2.sink_is ∙ served.0.3) in (
      (
        st,
        one.1,
        serves_built p one.2.made st one.2.cells_are one.2.fields_are one.2.kinds (served.0.4 ∙ ap (λ (b : Build). b.kept) (sym same)) (served.0.5 ∙ ap (λ (b : Build). map kind_of b.key) (sym same))
            (λ j low. chain_has (IsStoredEntry (length one.2.made.key) one.2.made.kept) st.chains one.2.stored j low),
      ),
      front_serves front stoods operators zip served.1,
    )

-- ---- columns that are kept apart
-- no lookup keeps a column that the row has already, nor one twice
abbrev pub KeepsApart : (taken : ℕ → Bool) → List Operator → Type 0
KeepsApart taken [] = Unit {0}
KeepsApart taken (filter cs ∷ operators) = KeepsApart taken operators
KeepsApart taken (probe p ∷ operators) = AllByRecursion (λ (c : ReadColumn). taken c.number ≡ false) p.kept × KeepsApart (λ i. taken i || list_any (λ (c : ReadColumn). nat_eq c.number i) p.kept) operators

abbrev pub KeepDistinct : List Operator → Type 0
KeepDistinct [] = Unit {0}
KeepDistinct (filter cs ∷ operators) = KeepDistinct operators
KeepDistinct (probe p ∷ operators) = AreDistinct p.kept × KeepDistinct operators

either_true : (p q : Bool) → p ≡ true → (p || q) ≡ true
either_true p q is = or_left p q is

kept_taken : (taken : ℕ → Bool) (kept columns : List ReadColumn) → ((c : ReadColumn) → list_any (λ (d : ReadColumn). nat_eq d.number c.number) columns ≡ true → list_any (λ (d : ReadColumn). nat_eq d.number c.number) kept ≡ true) →
    AllByRecursion (λ (k : Known). HasColumns (λ i t. (taken i || list_any (λ (d : ReadColumn). nat_eq d.number i) kept) ≡ true) k.expression) (map anywhere columns)
kept_taken taken kept [] among = tt
kept_taken taken kept (c ∷ columns) among = (
  or_right (taken c.number) (list_any (λ (d : ReadColumn). nat_eq d.number c.number) kept) (among c (or_left (nat_eq c.number c.number) (list_any (λ (d : ReadColumn). nat_eq d.number c.number) columns) (eq-eqb c.number c.number refl))),
  kept_taken taken kept columns (λ d there. among d (or_right (nat_eq c.number d.number) (list_any (λ (x : ReadColumn). nat_eq x.number d.number) columns) there)),
)

differs : (b : Bool) → b ≡ true → b ≡ false → ⊥
differs true so isnt = cc
differs false so isnt = cc

new_kept : (taken : ℕ → Bool) (known : List Known) (kept : List ReadColumn) → AllByRecursion (λ (c : ReadColumn). taken c.number ≡ false) kept → AllByRecursion (λ (k : Known). HasColumns (λ i t. taken i ≡ true) k.expression) known → AreNew known kept
new_kept taken known kept free held =
    all_more (λ (k : Known). HasColumns (λ i t. taken i ≡ true) k.expression) (λ (k : Known). HasColumns (λ i t. AllByRecursion (λ (c : ReadColumn). i ≢ c.number) kept) k.expression) known
    (λ k one. columns_more (λ i t. taken i ≡ true) (λ i t. AllByRecursion (λ (c : ReadColumn). i ≢ c.number) kept)
    (λ i t is. all_more (λ (c : ReadColumn). taken c.number ≡ false) (λ (c : ReadColumn). i ≢ c.number) kept (λ c none e. differs (taken c.number) (ap taken (sym e) ∙ is) none) free) k.expression one) held

-- what is known are columns that are taken, or none
pub kept_apart : (taken : ℕ → Bool) (known : List Known) (operators : List Operator) → KeepsApart taken operators → KeepDistinct operators → AllByRecursion (λ (k : Known). HasColumns (λ i t. taken i ≡ true) k.expression) known → AreApart known operators
kept_apart taken known [] apart distinct held = tt
kept_apart taken known (filter cs ∷ operators) apart distinct held = kept_apart taken known operators apart distinct held
kept_apart taken known (probe p ∷ operators) apart distinct held =
    let more : ℕ → Bool = λ i. taken i || list_any (λ (c : ReadColumn). nat_eq c.number i) p.kept in (
      new_kept taken known p.kept apart.0 held,
      distinct.0,
      kept_apart more (map anywhere p.kept ++ known) operators apart.1 distinct.1
          (all-append (λ (k : Known). HasColumns (λ i t. more i ≡ true) k.expression) (map anywhere p.kept) known (kept_taken taken p.kept p.kept (λ c there. there))
          (all_more (λ (k : Known). HasColumns (λ i t. taken i ≡ true) k.expression) (λ (k : Known). HasColumns (λ i t. more i ≡ true) k.expression) known
          (λ k one. columns_more (λ i t. taken i ≡ true) (λ i t. more i ≡ true) (λ i t is. either_true (taken i) (list_any (λ (c : ReadColumn). nat_eq c.number i) p.kept) is) k.expression one) held)),
    )

-- ---- operators that are the same
pub apart_same : (known : List Known) (operators others : List Operator) → AllZip IsSameOperator operators others → AreApart known operators → AreApart known others
apart_same known [] [] zip apart = tt
apart_same known [] (o ∷ os) zip apart = absurd zip
apart_same known (o ∷ operators) [] zip apart = absurd zip
apart_same known (filter cs ∷ operators) (filter ds ∷ os) zip apart = apart_same known operators os zip.1 apart
apart_same known (filter cs ∷ operators) (probe q ∷ os) zip apart = absurd zip.0
apart_same known (probe p ∷ operators) (filter ds ∷ os) zip apart = absurd zip.0
apart_same known (probe p ∷ operators) (probe q ∷ os) zip apart = (
  subst (AreNew known) zip.0.kept apart.0,
  subst AreDistinct zip.0.kept apart.1,
  apart_same (map anywhere q.kept ++ known) operators os zip.1 (subst (λ (columns : List ReadColumn). AreApart (map anywhere columns ++ known) operators) zip.0.kept apart.2),
)

pub null_same : (row : List Val) (operators others : List Operator) → AllZip IsSameOperator operators others → IsNullAt row operators → IsNullAt row others
null_same row [] [] zip nulls = tt
null_same row [] (o ∷ os) zip nulls = absurd zip
null_same row (o ∷ operators) [] zip nulls = absurd zip
null_same row (filter cs ∷ operators) (filter ds ∷ os) zip nulls = null_same row operators os zip.1 nulls
null_same row (filter cs ∷ operators) (probe q ∷ os) zip nulls = absurd zip.0
null_same row (probe p ∷ operators) (filter ds ∷ os) zip nulls = absurd zip.0
null_same row (probe p ∷ operators) (probe q ∷ os) zip nulls = (
  subst (λ (columns : List ReadColumn). AllByRecursion (λ (c : ReadColumn). value_at row c.number ≡ val.Null) columns) zip.0.kept nulls.0,
  null_same row operators os zip.1 nulls.1,
)

-- ---- columns that are a part of distinct ones
distinct_others : (c : ReadColumn) (test : ReadColumn → Bool) (columns : List ReadColumn) → AllByRecursion (λ (d : ReadColumn). c.number ≢ d.number) columns → AllByRecursion (λ (d : ReadColumn). c.number ≢ d.number) (filtered test columns)
distinct_others c test [] apart = tt
distinct_others c test (d ∷ columns) apart = one (test d) (filtered test columns) (distinct_others c test columns apart.1)
  where
    one : (b : Bool) (rest : List ReadColumn) → AllByRecursion (λ (d : ReadColumn). c.number ≢ d.number) rest → AllByRecursion (λ (d : ReadColumn). c.number ≢ d.number) (cond b (d ∷ rest) rest)
    one true rest others = (apart.0, others)
    one false rest others = others

pub distinct_filtered : (test : ReadColumn → Bool) (columns : List ReadColumn) → AreDistinct columns → AreDistinct (filtered test columns)
distinct_filtered test [] distinct = tt
distinct_filtered test (c ∷ columns) distinct = one (test c) (distinct_others c test columns distinct.0) (distinct_filtered test columns distinct.1)
  where
    one : (b : Bool) → AllByRecursion (λ (d : ReadColumn). c.number ≢ d.number) (filtered test columns) → AreDistinct (filtered test columns) → AreDistinct (cond b (c ∷ filtered test columns) (filtered test columns))
    one true apart rest = (apart, rest)
    one false apart rest = rest

pub parts_distinct : (columns : List ReadColumn) (operators : List Operator) → AreDistinct columns → KeepParts columns operators → KeepDistinct operators
parts_distinct columns [] distinct parts = tt
parts_distinct columns (filter cs ∷ operators) distinct parts = parts_distinct columns operators distinct parts
parts_distinct columns (probe p ∷ operators) distinct parts = (subst AreDistinct (sym parts.0.1) (distinct_filtered parts.0.0 columns distinct), parts_distinct columns operators distinct parts.1)

-- ---- entries that were made for a pipeline that is the same
zip_stored : (columns : List ReadColumn) (values : List Val) → AllZip (λ (c : ReadColumn) (v : Val). IsOfTypeOrNull c.ty c.not_null v) columns values → AreStored columns values
zip_stored [] [] zip = tt
zip_stored [] (v ∷ values) zip = absurd zip
zip_stored (c ∷ columns) [] zip = absurd zip
zip_stored (c ∷ columns) (v ∷ values) zip = (held_typed c.ty c.not_null v zip.0, zip_stored columns values zip.1)

zip_long : (es fs : List Expression) → AllZip IsSame es fs → length es ≡ length fs
zip_long [] [] zip = refl
zip_long [] (f ∷ fs) zip = absurd zip
zip_long (e ∷ es) [] zip = absurd zip
zip_long (e ∷ es) (f ∷ fs) zip = ap suc (zip_long es fs zip.1)

pub stood_of : (b made : Build) (q : Pipeline) (st : Stood) → AllZip IsSame b.key made.key → b.kept ≡ made.kept → q.sink ≡ build made → st.fields ≡ length made.key → st.cells ≡ fields_of (sink_values (build made)) → AllByRecursion HasKind (sink_values (build made)) →
    AllByRecursion (λ entry. AllZip (λ (c : ReadColumn) (v : Val). IsOfTypeOrNull c.ty c.not_null v) b.kept (drop (length b.key) entry)) (all_entries st.chains) → IsStoodOf q st
stood_of b made q st keys kept sink fields cells kinds entries = record {
  made = made;
  sink_is = sink;
  fields_are = fields;
  cells_are = cells;
  kinds = kinds;
  stored =
      all_more (λ entry. AllZip (λ (c : ReadColumn) (v : Val). IsOfTypeOrNull c.ty c.not_null v) b.kept (drop (length b.key) entry)) (IsStoredEntry (length made.key) made.kept) (all_entries st.chains)
      (λ entry zip. subst (λ (n : ℕ). IsStoredEntry n made.kept entry) (zip_long b.key made.key keys) (subst (λ (columns : List ReadColumn). IsStoredEntry (length b.key) columns entry) kept (zip_stored b.kept (drop (length b.key) entry) zip))) entries;
}
