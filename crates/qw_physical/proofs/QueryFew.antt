-- Keys are no more than the conjuncts of a query, and kept columns no more than those that are read.
use Rattle.std.proofs.Common.{◌≡◌, ◌≤◌, ℕ, suc, ◌+◌, Bool, true, false, not, if◌then◌else◌, List, [], ◌∷◌, ◌++◌, length, length-append, map, refl, sym, ap, subst, arith}
use Rattle.std.specs.List.{AllByRecursion, AllZip, flat_map}
use Rattle.std.specs.List as list
use Rattle.std.proofs.lemmas.List.{length-map}
use Rattle.std.proofs.lemmas.List.Sorted.{length_permutation}
use Rattle.qw_types.specs.Value.{IsSized}
use Rattle.qw_types.specs.declared.schema.ColumnType.{ColumnType}
use Rattle.qw_types.specs.declared.value.Val.{Val}
use Rattle.qw_scalar.specs.Expression.{Condition, Expression}
use Rattle.qw_meaning.specs.Select.{Entry, Joined, Source, Specification, conjuncts_on, entries_in, entries_of}
use Rattle.qw_algebra.specs.Columns.{entries_below, is_of}
use Rattle.qw_algebra.specs.Node.{Node, scan, filter, join, project}
use Rattle.qw_algebra.specs.Written.{from_written, source_written, with_joins, with_sources}
use Rattle.qw_algebra.proofs.Lists.{all_append}
use Rattle.qw_rewrite.specs.Placed.{conjuncts_of}
use Rattle.qw_rewrite.specs.Probed.{at_keys, beside_keys, is_key}
use Rattle.qw_rewrite.proofs.Once.{all_once}
use Rattle.qw_pipe.specs.Pipes as pipes
use Rattle.qw_pipe.specs.Pipes.{Lookup, split, test}
use Rattle.qw_pipe.specs.Units.{operand_of}
use Rattle.qw_fold.specs.Stands.{Follows}
use Rattle.qw_physical.specs.Follows.{FollowsOperator, FollowsPipeline, FollowsSink}
use Rattle.qw_physical.specs.Physical.{Operator, Pipeline, Sink, build, filter as filter_by, probe, select}
use Rattle.qw_physical.specs.Sides.{IsPlanned, builds_of, last_of}
use Rattle.qw_physical.specs.Spelled.{all_spelled, kept_columns, keys_kept, keys_sought, spelled, spelled_steps}
use Rattle.qw_physical.specs.declared.pipeline.ReadColumn.{ReadColumn}
use Rattle.qw_physical.proofs.Feeding.{building, spelled_append, spelled_join}
use Rattle.qw_physical.proofs.Outcomes.{below, last_is, ready_below}
use Rattle.qw_physical.proofs.Placed.{IsReady}
use Rattle.qw_physical.proofs.JoinBound.{is_less, less_trans}

-- ---- at most so many keys, and so many columns, of sizes that types may have
abbrev pub AreSizedColumns : List ReadColumn → Type 0
AreSizedColumns columns = AllByRecursion (λ (c : ReadColumn). IsSized c.ty) columns

abbrev pub IsFewOf : (keys columns : ℕ) → Operator → Type 0
IsFewOf m k (filter_by conjuncts) = Unit {0}
IsFewOf m k (probe p) = (length p.key ≤ m) × (length p.kept ≤ k) × AreSizedColumns p.kept

abbrev pub IsFewSink : (keys columns : ℕ) → Sink → Type 0
IsFewSink m k (build b) = (length b.key ≤ m) × (length b.kept ≤ k) × AreSizedColumns b.kept
IsFewSink m k (select items) = length items ≤ k

pub record IsFewCourse (m k : ℕ) (p : Pipeline) : Type 0 where
  pub operators : AllByRecursion (IsFewOf m k) p.operators
  pub sink : IsFewSink m k p.sink

at_keys_few : (keys : List ℕ) (k : ℕ) (cs : List Condition) → length (at_keys keys k cs) ≤ length cs
at_keys_few keys k [] = omega arith
at_keys_few keys k (c ∷ cs) = one (is_key keys k) (at_keys_few keys (k + 1) cs)
  where
    one : (b : Bool) → length (at_keys keys (k + 1) cs) ≤ length cs → length (if b then c ∷ at_keys keys (k + 1) cs else at_keys keys (k + 1) cs) ≤ suc (length cs)
    one true h = omega (arith, h)
    one false h = omega (arith, h)

filter_few : (passes : ReadColumn → Bool) (xs : List ReadColumn) → length (list.filter passes xs) ≤ length xs
filter_few passes [] = omega arith
filter_few passes (x ∷ xs) = one (passes x) (filter_few passes xs)
  where
    one : (b : Bool) → length (list.filter passes xs) ≤ length xs → length (if b then x ∷ list.filter passes xs else list.filter passes xs) ≤ suc (length xs)
    one true h = omega (arith, h)
    one false h = omega (arith, h)

filter_sized : (passes : ReadColumn → Bool) (xs : List ReadColumn) → AreSizedColumns xs → AreSizedColumns (list.filter passes xs)
filter_sized passes [] h = tt
filter_sized passes (x ∷ xs) h = one (passes x) (filter_sized passes xs h.1)
  where
    one : (b : Bool) → AreSizedColumns (list.filter passes xs) → AreSizedColumns (if b then x ∷ list.filter passes xs else list.filter passes xs)
    one true g = (h.0, g)
    one false g = g

-- ---- a plan

module _ (entries : List Entry) (tables : List (List (List Val))) (columns : List ReadColumn)
    (sized : AllByRecursion (λ (e : Entry). AllByRecursion (λ (c : ColumnType). IsSized c.ty) e.columns) entries) (m k : ℕ) (many : length columns ≤ k) (fit : AreSizedColumns columns) where
  abbrev looked : Bool → Node → List Condition → List ℕ → Lookup
  looked outer right on keys = record { entries = entries_below right; outer = outer; on = on; keys = keys }

  module _ (outer : Bool) (left right : Node) (on : List Condition) (keys : List ℕ) (ready : IsReady entries tables columns sized (join outer left right on keys)) (short : length on ≤ m) where
    sought_few : length (keys_sought (looked outer right on keys)) ≤ m
    sought_few =
        subst (λ (cs : List Condition). length (map (operand_of (λ i. not (is_of (entries_below right) i))) cs) ≤ m) (sym ready.0.equal)
        (is_less (length (map (operand_of (λ i. not (is_of (entries_below right) i))) (at_keys keys 0 on))) (length (at_keys keys 0 on)) m (length-map (at_keys keys 0 on) (operand_of (λ i. not (is_of (entries_below right) i))))
        (less_trans (length (at_keys keys 0 on)) (length on) m (at_keys_few keys 0 on) short))

    kept_few : length (keys_kept (looked outer right on keys)) ≤ m
    kept_few =
        subst (λ (cs : List Condition). length (map (operand_of (is_of (entries_below right))) cs) ≤ m) (sym ready.0.equal)
        (is_less (length (map (operand_of (is_of (entries_below right))) (at_keys keys 0 on))) (length (at_keys keys 0 on)) m (length-map (at_keys keys 0 on) (operand_of (is_of (entries_below right))))
        (less_trans (length (at_keys keys 0 on)) (length on) m (at_keys_few keys 0 on) short))

    columns_few : length (kept_columns columns (looked outer right on keys)) ≤ k
    columns_few = less_trans (length (kept_columns columns (looked outer right on keys))) (length columns) k (filter_few (λ (c : ReadColumn). is_of (entries_below right) c.number) columns) many

    columns_fit : AreSizedColumns (kept_columns columns (looked outer right on keys))
    columns_fit = filter_sized (λ (c : ReadColumn). is_of (entries_below right) c.number) columns fit

  front_less : (xs ys : List Condition) → length (xs ++ ys) ≤ m → length xs ≤ m
  front_less xs ys h = let long = length-append xs ys in omega (arith, long, h)

  back_less : (xs ys : List Condition) → length (xs ++ ys) ≤ m → length ys ≤ m
  back_less xs ys h = let long = length-append xs ys in omega (arith, long, h)

  pub steps_few : (node : Node) (next : ℕ) → IsReady entries tables columns sized node → length (conjuncts_of node) ≤ m → AllByRecursion (IsFewOf m k) (spelled_steps columns (split next node).last.steps)
  steps_few (scan entry table) next ready short = tt
  steps_few (filter conjuncts below) next ready short =
      subst (AllByRecursion (IsFewOf m k)) (sym (spelled_append columns (split next below).last.steps (test conjuncts ∷ [])))
      (all_append (IsFewOf m k) (spelled_steps columns (split next below).last.steps) (filter_by conjuncts ∷ []) (steps_few below next ready.1 (front_less (conjuncts_of below) conjuncts short)) (tt, tt))
  steps_few (join outer left right on keys) next ready short =
      let n : ℕ = next + length (split next right).builds in
      let o : Operator = probe (record { table = n; outer = outer; key = keys_sought (looked outer right on keys); kept = kept_columns columns (looked outer right on keys); on = beside_keys keys 0 on }) in
      let own : length on ≤ m = back_less (conjuncts_of left ++ conjuncts_of right) on short in
      let sides : length (conjuncts_of left ++ conjuncts_of right) ≤ m = front_less (conjuncts_of left ++ conjuncts_of right) on short in
      subst (AllByRecursion (IsFewOf m k)) (sym (spelled_append columns (split (n + 1) left).last.steps (pipes.probe n (looked outer right on keys) ∷ [])))
      (all_append (IsFewOf m k) (spelled_steps columns (split (n + 1) left).last.steps) (o ∷ []) (steps_few left (n + 1) ready.1.0 (front_less (conjuncts_of left) (conjuncts_of right) sides))
      ((sought_few outer left right on keys ready own, columns_few outer left right on keys ready own, columns_fit outer left right on keys ready own), tt))
  steps_few (project below items) next ready short = absurd ready

  pub builds_few : (node : Node) (next : ℕ) → IsReady entries tables columns sized node → length (conjuncts_of node) ≤ m → AllByRecursion (IsFewCourse m k) (all_spelled columns next (split next node).builds)
  builds_few (scan entry table) next ready short = tt
  builds_few (filter conjuncts below) next ready short = builds_few below next ready.1 (front_less (conjuncts_of below) conjuncts short)
  builds_few (join outer left right on keys) next ready short =
      let n : ℕ = next + length (split next right).builds in
      let own : length on ≤ m = back_less (conjuncts_of left ++ conjuncts_of right) on short in
      let sides : length (conjuncts_of left ++ conjuncts_of right) ≤ m = front_less (conjuncts_of left ++ conjuncts_of right) on short in
      let on_left : length (conjuncts_of left) ≤ m = front_less (conjuncts_of left) (conjuncts_of right) sides in
      let on_right : length (conjuncts_of right) ≤ m = back_less (conjuncts_of left) (conjuncts_of right) sides in
      subst (AllByRecursion (IsFewCourse m k)) (sym (spelled_join entries tables columns sized outer left right on keys next))
      (all_append (IsFewCourse m k) (all_spelled columns next (split next right).builds) (spelled columns n (building entries tables columns sized next outer right on keys) ∷ all_spelled columns (n + 1) (split (n + 1) left).builds)
      (builds_few right next ready.1.1 on_right) (
        record { operators = steps_few right next ready.1.1 on_right; sink = (kept_few outer left right on keys ready own, columns_few outer left right on keys ready own, columns_fit outer left right on keys ready own) },
        builds_few left (n + 1) ready.1.0 on_left,
      ))
  builds_few (project below items) next ready short = absurd ready

-- ---- how many conjuncts a plan has

joins_count : (joins : List Joined) (next : ℕ) (node : Node) → length (conjuncts_of (with_joins next node joins)) ≡ length (conjuncts_of node) + length (flat_map (λ (j : Joined). j.on) joins)
joins_count [] next node = omega arith
joins_count (j ∷ joins) next node =
    let rest : length (conjuncts_of (with_joins (next + 1) (join j.outer node (scan next j.entry.table) j.on []) joins)) ≡ length ((conjuncts_of node ++ []) ++ j.on) + length (flat_map (λ (i : Joined). i.on) joins) =
    joins_count joins (next + 1) (join j.outer node (scan next j.entry.table) j.on []) in
    let one = length-append (conjuncts_of node ++ []) j.on in
    let two : length (conjuncts_of node ++ []) ≡ length (conjuncts_of node) + 0 = length-append (conjuncts_of node) [] in
    let three : length (j.on ++ flat_map (λ (i : Joined). i.on) joins) ≡ length j.on + length (flat_map (λ (i : Joined). i.on) joins) = length-append j.on (flat_map (λ (i : Joined). i.on) joins) in
    summed (length (conjuncts_of (with_joins (next + 1) (join j.outer node (scan next j.entry.table) j.on []) joins))) (length ((conjuncts_of node ++ []) ++ j.on)) (length (flat_map (λ (i : Joined). i.on) joins)) (length (conjuncts_of node ++ [])) (length j.on)
    (length (conjuncts_of node)) (length (j.on ++ flat_map (λ (i : Joined). i.on) joins)) rest one two three
  where
    summed : (whole a r b o c t : ℕ) → whole ≡ a + r → a ≡ b + o → b ≡ c + 0 → t ≡ o + r → whole ≡ c + t
    summed whole a r b o c t e f g h = omega (arith, e, f, g, h)

sources_count : (sources : List Source) (next : ℕ) (node : Node) → length (conjuncts_of (with_sources next node sources)) ≡ length (conjuncts_of node) + length (conjuncts_on sources)
sources_count [] next node = omega arith
sources_count (source ∷ sources) next node =
    let first : List Condition = conjuncts_of (source_written next source) in
    let own : List Condition = flat_map (λ (j : Joined). j.on) source.joins in
    let rest : length (conjuncts_of (with_sources (next + length (entries_in source)) (join false node (source_written next source) [] []) sources)) ≡ length ((conjuncts_of node ++ first) ++ []) + length (conjuncts_on sources) =
    sources_count sources (next + length (entries_in source)) (join false node (source_written next source) [] []) in
    let here : length first ≡ 0 + length own = joins_count source.joins (next + 1) (scan next source.first.table) in
    let one : length ((conjuncts_of node ++ first) ++ []) ≡ length (conjuncts_of node ++ first) + 0 = length-append (conjuncts_of node ++ first) [] in
    let two = length-append (conjuncts_of node) first in
    let three : length (own ++ conjuncts_on sources) ≡ length own + length (conjuncts_on sources) = length-append own (conjuncts_on sources) in
    summed (length (conjuncts_of (with_sources (next + length (entries_in source)) (join false node (source_written next source) [] []) sources))) (length ((conjuncts_of node ++ first) ++ [])) (length (conjuncts_on sources)) (length first) (length own)
    (length (conjuncts_of node ++ first)) (length (conjuncts_of node)) (length (own ++ conjuncts_on sources)) rest here one two three
  where
    summed : (whole a r f o b c t : ℕ) → whole ≡ a + r → f ≡ 0 + o → a ≡ b + 0 → b ≡ c + f → t ≡ o + r → whole ≡ c + t
    summed whole a r f o b c t e g h i j = omega (arith, e, g, h, i, j)

from_count : (sources : List Source) → length (conjuncts_of (from_written sources)) ≡ length (conjuncts_on sources)
from_count [] = refl
from_count (source ∷ sources) =
    let first : List Condition = conjuncts_of (source_written 0 source) in
    let own : List Condition = flat_map (λ (j : Joined). j.on) source.joins in
    let rest : length (conjuncts_of (with_sources (length (entries_in source)) (source_written 0 source) sources)) ≡ length first + length (conjuncts_on sources) =
    sources_count sources (length (entries_in source)) (source_written 0 source) in
    let here : length first ≡ 0 + length own = joins_count source.joins 1 (scan 0 source.first.table) in
    let three : length (own ++ conjuncts_on sources) ≡ length own + length (conjuncts_on sources) = length-append own (conjuncts_on sources) in
    summed (length (conjuncts_of (with_sources (length (entries_in source)) (source_written 0 source) sources))) (length (conjuncts_on sources)) (length first) (length own) (length (own ++ conjuncts_on sources)) rest here three
  where
    summed : (whole r f o t : ℕ) → whole ≡ f + r → f ≡ 0 + o → t ≡ o + r → whole ≡ t
    summed whole r f o t e g h = omega (arith, e, g, h)

module _ (query : Specification) (tables : List (List (List Val))) (columns : List ReadColumn) (node : Node) (planned : IsPlanned query tables columns node) (many : length columns ≤ 512) (fit : AreSizedColumns columns) where
  abbrev plan : Node
  plan = below query tables columns planned.specification planned.loaded planned.sized planned.read planned.scaled

  plan_short : length (conjuncts_of plan) ≤ 1000
  plan_short =
      let start : Node = filter query.conjuncts (from_written query.sources) in
      let same = length_permutation (conjuncts_of start) (conjuncts_of plan) (all_once start plan refl) in
      let whole : length (conjuncts_of (from_written query.sources) ++ query.conjuncts) ≡ length (conjuncts_of (from_written query.sources)) + length query.conjuncts = length-append (conjuncts_of (from_written query.sources)) query.conjuncts in
      let from = from_count query.sources in
      let few = planned.specification.few_conjuncts in
      omega (arith, same, whole, from, few)

  pub query_builds_few : AllByRecursion (IsFewCourse 1000 512) (builds_of columns node)
  query_builds_few =
      subst (λ (n : Node). AllByRecursion (IsFewCourse 1000 512) (builds_of columns n)) (sym planned.placed)
      (builds_few (entries_of query.sources) tables columns planned.sized 1000 512 many fit plan 0
      (ready_below query tables columns planned.specification planned.loaded planned.sized planned.read planned.scaled) plan_short)

  pub query_last_few : IsFewCourse 1000 512 (last_of columns node)
  query_last_few =
      subst (λ (n : Node). IsFewCourse 1000 512 (last_of columns n)) (sym planned.placed)
      (subst (IsFewCourse 1000 512) (sym (last_is query tables columns planned.specification planned.loaded planned.sized planned.read planned.scaled (length (split 0 plan).builds)))
      (record {
        operators = steps_few (entries_of query.sources) tables columns planned.sized 1000 512 many fit plan 0
            (ready_below query tables columns planned.specification planned.loaded planned.sized planned.read planned.scaled) plan_short;
        sink = planned.specification.few_items;
      }))

-- ---- what follows has as many

zip_long : (xs ys : List Expression) → AllZip Follows xs ys → length xs ≡ length ys
zip_long [] [] h = refl
zip_long [] (y ∷ ys) h = absurd h
zip_long (x ∷ xs) [] h = absurd h
zip_long (x ∷ xs) (y ∷ ys) h = ap suc (zip_long xs ys h.1)

operators_follow : (m k : ℕ) (os rs : List Operator) → AllZip FollowsOperator os rs → AllByRecursion (IsFewOf m k) os → AllByRecursion (IsFewOf m k) rs
operators_follow m k [] [] z h = tt
operators_follow m k [] (r ∷ rs) z h = absurd z
operators_follow m k (o ∷ os) [] z h = absurd z
operators_follow m k (filter_by cs ∷ os) (filter_by ds ∷ rs) z h = (tt, operators_follow m k os rs z.1 h.1)
operators_follow m k (filter_by cs ∷ os) (probe q ∷ rs) z h = absurd z.0
operators_follow m k (probe p ∷ os) (filter_by ds ∷ rs) z h = absurd z.0
operators_follow m k (probe p ∷ os) (probe q ∷ rs) z h = (
  (
    is_less (length q.key) (length p.key) m (sym (zip_long p.key q.key z.0.key)) h.0.0,
    subst (λ (c : List ReadColumn). length c ≤ k) z.0.kept h.0.1,
    subst AreSizedColumns z.0.kept h.0.2,
  ),
  operators_follow m k os rs z.1 h.1,
)

few_sink_follows : (m k : ℕ) (s t : Sink) → FollowsSink s t → IsFewSink m k s → IsFewSink m k t
few_sink_follows m k (build b) (build c) z h = (is_less (length c.key) (length b.key) m (sym (zip_long b.key c.key z.key)) h.0, subst (λ (l : List ReadColumn). length l ≤ k) z.kept h.1, subst AreSizedColumns z.kept h.2)
few_sink_follows m k (build b) (select others) z h = absurd z
few_sink_follows m k (select items) (build c) z h = absurd z
few_sink_follows m k (select items) (select others) z h = is_less (length others) (length items) k (sym (zip_long items others z)) h

pub few_follows : (m k : ℕ) (p q : Pipeline) → FollowsPipeline p q → IsFewCourse m k p → IsFewCourse m k q
few_follows m k p q z h = record { operators = operators_follow m k p.operators q.operators z.operators h.operators; sink = few_sink_follows m k p.sink q.sink z.sink h.sink }
