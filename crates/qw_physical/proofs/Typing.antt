-- Pipelines that are spelled out of typed ones are typed, and so are those that can stand for them.
use Rattle.std.proofs.Common.{ℕ, zero, suc, ◌+◌, Bool, true, false, not, IsTrue, if◌then◌else◌, Option, Some, None, List, [], ◌∷◌, map, slice_get, refl, subst}
use Rattle.std.specs.List.{AllByRecursion, AllZip, cons_option, filter_map}
use Rattle.qw_types.specs.declared.kind.Kind.{Kind}
use Rattle.qw_types.specs.declared.kind.Kind.TheVariants as kind
use Rattle.qw_types.specs.declared.value.Ty.{Ty}
use Rattle.qw_scalar.specs.Columns.{HasColumns, HaveColumns}
use Rattle.qw_scalar.specs.Expression.{Condition, Expression}
use Rattle.qw_scalar.specs.Typing.{AreTyped, IsTyped, are_comparable, has_kind, kind_of}
use Rattle.qw_leaves.proofs.ComparedLemmas.{by_compared}
use Rattle.qw_algebra.specs.Columns.{is_of, names_only}
use Rattle.qw_fold.specs.Stands.{Follows, FollowsTruth}
use Rattle.qw_fold.proofs.Named.{follows_columns, follows_conditions}
use Rattle.qw_pipe.specs.Pipes as pipes
use Rattle.qw_pipe.specs.Pipes.{Lookup, make, test, to_result, to_table}
use Rattle.qw_pipe.specs.Units.{equalities, operand_among, operand_of}
use Rattle.qw_physical.specs.declared.pipeline.ReadColumn.{ReadColumn}
use Rattle.qw_physical.specs.Follows.{FollowsOperator, FollowsPipeline, FollowsSink}
use Rattle.qw_physical.specs.Physical.{Operator, Pipeline, Sink, build, filter, probe, select}
use Rattle.qw_physical.specs.Spelled.{all_spelled, items_made, keys_kept, keys_sought, spelled, spelled_sink, spelled_steps}
use Rattle.qw_physical.specs.Typed.{AreTypedPipelines, Compares, IsComparison, IsTypedLookup, IsTypedOperator, IsTypedPhysical, IsTypedPipeline, IsTypedSink, IsTypedStep, IsTypedTarget, IsValued}
use Rattle.qw_physical.proofs.JoinBound.{beside_all}

-- ---- operands of a comparison
comparable_kinds : (k other : Option Kind) → IsTrue (are_comparable k other) → IsTrue (has_kind k) × IsTrue (has_kind other)
comparable_kinds None None h = absurd cc
comparable_kinds None (Some other) h = absurd cc
comparable_kinds (Some k) None h = absurd (none k h)
  where
    none : (k : Kind) → IsTrue (are_comparable (Some k) None) → ⊥
    none (kind.Number s) h = absurd cc
    none kind.Date h = absurd cc
    none kind.Text h = absurd cc
comparable_kinds (Some k) (Some other) h = (refl, refl)

operand_valued : (side : ℕ → Bool) (c : Condition) → AreTyped c → IsComparison c → IsValued (operand_of side c)
operand_valued side = by_compared (λ c o. AreTyped c → Compares o → IsValued (operand_among side o)) (λ op a b h k. by_test a b (h.0.0, h.0.1) (comparable_kinds (kind_of a) (kind_of b) h.1) (names_only side a)) (λ c h k. absurd k)
  where
    by_test : (a b : Expression) → IsTyped a × IsTyped b → IsTrue (has_kind (kind_of a)) × IsTrue (has_kind (kind_of b)) → (x : Bool) → IsValued (if x then a else b)
    by_test a b typed kinds true = (typed.0, kinds.0)
    by_test a b typed kinds false = (typed.1, kinds.1)

keys_valued : (side : ℕ → Bool) (cs : List Condition) → AllByRecursion AreTyped cs → AllByRecursion IsComparison cs → AllByRecursion IsValued (map (operand_of side) cs)
keys_valued side [] h k = tt
keys_valued side (c ∷ cs) h k = (operand_valued side c h.0 k.0, keys_valued side cs h.1 k.1)

-- ---- conjuncts of ON
and_one : {X : Type 0} (P : X → Type 0) (xs : List X) (k : ℕ) (others : List X) → AllByRecursion P xs → AllByRecursion P others → AllByRecursion P (cons_option (slice_get xs k) others)
and_one P [] k others h rest = rest
and_one P (x ∷ xs) zero others h rest = (h.0, rest)
and_one P (x ∷ xs) (suc k) others h rest = and_one P xs k others h.1 rest

pub all_positions : {X : Type 0} (P : X → Type 0) (xs : List X) (keys : List ℕ) → AllByRecursion P xs → AllByRecursion P (filter_map (λ k. slice_get xs k) keys)
all_positions P xs [] h = tt
all_positions P xs (k ∷ keys) h = and_one P xs k (filter_map (λ p. slice_get xs p) keys) h (all_positions P xs keys h)

sought_valued : (lookup : Lookup) → IsTypedLookup lookup → AllByRecursion IsValued (keys_sought lookup)
sought_valued lookup h = keys_valued (λ i. not (is_of lookup.entries i)) (equalities lookup) (all_positions AreTyped lookup.on lookup.keys h.on) h.keys

kept_valued : (lookup : Lookup) → IsTypedLookup lookup → AllByRecursion IsValued (keys_kept lookup)
kept_valued lookup h = keys_valued (is_of lookup.entries) (equalities lookup) (all_positions AreTyped lookup.on lookup.keys h.on) h.keys

-- ---- spelled out
steps_typed : (columns : List ReadColumn) (steps : List pipes.Step) → AllByRecursion IsTypedStep steps → AllByRecursion IsTypedOperator (spelled_steps columns steps)
steps_typed columns [] h = tt
steps_typed columns (test cs ∷ steps) h = (h.0, steps_typed columns steps h.1)
steps_typed columns (pipes.probe table lookup ∷ steps) h = ((sought_valued lookup h.0, beside_all AreTyped lookup.keys 0 lookup.on h.0.on), steps_typed columns steps h.1)
steps_typed columns (make items ∷ steps) h = steps_typed columns steps h.1

items_valued : (items : List Expression) (steps : List pipes.Step) → AllByRecursion IsValued items → AllByRecursion IsTypedStep steps → AllByRecursion IsValued (items_made items steps)
items_valued items [] v h = v
items_valued items (test cs ∷ steps) v h = items_valued items steps v h.1
items_valued items (pipes.probe table lookup ∷ steps) v h = items_valued items steps v h.1
items_valued items (make others ∷ steps) v h = items_valued others steps h.0 h.1

sink_typed : (columns : List ReadColumn) (number : ℕ) (steps : List pipes.Step) (t : pipes.Target) → AllByRecursion IsTypedStep steps → IsTypedTarget t → IsTypedSink (spelled_sink columns number steps t)
sink_typed columns number steps (to_table lookup) h k = kept_valued lookup k
sink_typed columns number steps to_result h k = items_valued [] steps tt h

pipeline_typed : (columns : List ReadColumn) (number : ℕ) (p : pipes.Pipeline) → IsTypedPipeline p → IsTypedPhysical (spelled columns number p)
pipeline_typed columns number p h = record { operators = steps_typed columns p.steps h.steps; sink = sink_typed columns number p.steps p.target h.steps h.target }

all_typed : (columns : List ReadColumn) (next : ℕ) (ps : List pipes.Pipeline) → AreTypedPipelines ps → AllByRecursion IsTypedPhysical (all_spelled columns next ps)
all_typed columns next [] h = tt
all_typed columns next (p ∷ ps) h = (pipeline_typed columns next p h.0, all_typed columns (next + 1) ps h.1)

-- ---- what can stand for what is typed
pub zip_all : {A B : Type 0} (R : A → B → Type 0) (P : A → Type 0) (Q : B → Type 0) → ((x : A) (y : B) → R x y → P x → Q y) → (xs : List A) (ys : List B) → AllZip R xs ys → AllByRecursion P xs → AllByRecursion Q ys
zip_all R P Q f [] [] h all = tt
zip_all R P Q f [] (y ∷ ys) h all = absurd h
zip_all R P Q f (x ∷ xs) [] h all = absurd h
zip_all R P Q f (x ∷ xs) (y ∷ ys) h all = (f x y h.0 all.0, zip_all R P Q f xs ys h.1 all.1)

value_follows : (e f : Expression) → Follows e f → IsValued e → IsValued f
value_follows e f h v = (h.typed v.0, subst (λ (k : Option Kind). IsTrue (has_kind k)) h.same.kind v.1)

values_follow : (es fs : List Expression) → AllZip Follows es fs → AllByRecursion IsValued es → AllByRecursion IsValued fs
values_follow es fs h v = zip_all Follows IsValued IsValued value_follows es fs h v

tests_follow : (cs ds : List Condition) → AllZip FollowsTruth cs ds → AllByRecursion AreTyped cs → AllByRecursion AreTyped ds
tests_follow cs ds h v = zip_all FollowsTruth AreTyped AreTyped (λ c d p. p.typed) cs ds h v

operator_follows : (o r : Operator) → FollowsOperator o r → IsTypedOperator o → IsTypedOperator r
operator_follows (filter cs) (filter ds) h v = tests_follow cs ds h v
operator_follows (filter cs) (probe q) h v = absurd h
operator_follows (probe p) (filter ds) h v = absurd h
operator_follows (probe p) (probe q) h v = (values_follow p.key q.key h.key v.0, tests_follow p.on q.on h.on v.1)

sink_follows : (s t : Sink) → FollowsSink s t → IsTypedSink s → IsTypedSink t
sink_follows (build b) (build c) h v = values_follow b.key c.key h.key v
sink_follows (build b) (select items) h v = absurd h
sink_follows (select items) (build c) h v = absurd h
sink_follows (select items) (select others) h v = values_follow items others h v

pipeline_follows : (p q : Pipeline) → FollowsPipeline p q → IsTypedPhysical p → IsTypedPhysical q
pipeline_follows p q h v = record {
  operators = zip_all FollowsOperator IsTypedOperator IsTypedOperator operator_follows p.operators q.operators h.operators v.operators;
  sink = sink_follows p.sink q.sink h.sink v.sink;
}

pub all_stay_typed : (columns : List ReadColumn) (next : ℕ) (ps : List pipes.Pipeline) (qs : List Pipeline) → AreTypedPipelines ps → AllZip FollowsPipeline (all_spelled columns next ps) qs → AllByRecursion IsTypedPhysical qs
all_stay_typed columns next ps qs typed h = zip_all FollowsPipeline IsTypedPhysical IsTypedPhysical pipeline_follows (all_spelled columns next ps) qs h (all_typed columns next ps typed)

-- ---- columns: what holds of those that are named holds of those that stand for them name
pub values_columns : (Holds : ℕ → Ty → Type 0) (es fs : List Expression) → AllZip Follows es fs → AllByRecursion (HasColumns Holds) es → AllByRecursion (HasColumns Holds) fs
values_columns Holds es fs h all = zip_all Follows (HasColumns Holds) (HasColumns Holds) (follows_columns Holds) es fs h all

pub tests_columns : (Holds : ℕ → Ty → Type 0) (cs ds : List Condition) → AllZip FollowsTruth cs ds → AllByRecursion (HaveColumns Holds) cs → AllByRecursion (HaveColumns Holds) ds
tests_columns Holds cs ds h all = zip_all FollowsTruth (HaveColumns Holds) (HaveColumns Holds) (follows_conditions Holds) cs ds h all
