-- The pipelines of a well placed plan are typed.
use Rattle.std.proofs.Common.{◌≡◌, ◌∙◌, ℕ, ◌+◌, Bool, true, false, ◌&&◌, if◌then◌else◌, List, [], ◌∷◌, ◌++◌, length, Option, Some, None, slice_get, refl, sym, ap, subst, arith, append_assoc}
use Rattle.std.specs.List.{AllByRecursion, cons_option, filter_map}
use Rattle.qw_leaves.specs.Compared.{Compared, compared_in}
use Rattle.qw_scalar.specs.Expression.{Condition}
use Rattle.qw_scalar.specs.Typing.{AreTyped}
use Rattle.qw_meaning.specs.Select.{IsColumnOf, IsConditionOver, IsItemOver, IsSpecification, Specification, conjuncts_on, entries_of}
use Rattle.qw_raise.specs.Raise.{condition_can_raise}
use Rattle.qw_algebra.specs.Node.{Node, scan, filter, join, project}
use Rattle.qw_algebra.specs.Columns.{entries_below, owns}
use Rattle.qw_algebra.specs.Written.{from_written, written}
use Rattle.qw_pipe.specs.Pipes.{Lookup, Pipeline, Step, make, pipelines, probe, split, test, to_table}
use Rattle.qw_rewrite.specs.Placed.{IsWellPlaced}
use Rattle.qw_rewrite.specs.Probe.{are_eligible, is_eligible, keyed, keys_from, keys_of_join}
use Rattle.qw_rewrite.specs.Sift.{is_clean_on, is_quiet, sifted}
use Rattle.qw_physical.specs.Typed.{AreTypedPipelines, Compares, IsComparison, IsTypedNode, IsTypedPipeline, IsTypedStep, IsValued}
use Rattle.qw_leaves.proofs.LeafLists.{all_joined, all_weaker}
use Rattle.qw_physical.proofs.Conjuncts.{AllConjuncts, clauses_all, sifted_all, sources_over}

-- ---- pipelines of a plan
record AreTypedParts (next : ℕ) (node : Node) : Type 0 where
  pub builds : AreTypedPipelines (split next node).builds
  pub last : IsTypedPipeline (split next node).last

one_more : (p : Pipeline) (s : Step) → IsTypedPipeline p → IsTypedStep s → IsTypedPipeline (record p { steps = p.steps ++ s ∷ [] })
one_more p s h k = record { steps = all_joined IsTypedStep p.steps (s ∷ []) h.steps (k, tt); target = h.target }

parts_typed : (next : ℕ) (node : Node) → IsTypedNode node → AreTypedParts next node
parts_typed next (scan entry table) h = record { builds = tt; last = record { steps = tt; target = tt } }
parts_typed next (filter conjuncts below) h =
    let rest = parts_typed next below h.1 in
    record { builds = rest.builds; last = one_more (split next below).last (test conjuncts) rest.last h.0 }
parts_typed next (join outer left right on keys) h =
    let lookup : Lookup = record { entries = entries_below right; outer = outer; on = on; keys = keys } in
    let r = parts_typed next right h.1.1 in
    let at : ℕ = next + length (split next right).builds in
    let l = parts_typed (at + 1) left h.1.0 in
    let built : IsTypedPipeline (record (split next right).last { target = to_table lookup }) = record { steps = r.last.steps; target = h.0 } in
    record {
      builds = all_joined IsTypedPipeline (split next right).builds (record (split next right).last { target = to_table lookup } ∷ (split (at + 1) left).builds) r.builds (built, l.builds);
      last = one_more (split (at + 1) left).last (probe at lookup) l.last h.0;
    }
parts_typed next (project below items) h =
    let rest = parts_typed next below h.1 in
    record { builds = rest.builds; last = one_more (split next below).last (make items) rest.last h.0 }

pub pipelines_typed : (node : Node) → IsTypedNode node → AreTypedPipelines (pipelines node)
pipelines_typed node h =
    let parts = parts_typed 0 node h in
    all_joined IsTypedPipeline (split 0 node).builds ((split 0 node).last ∷ []) parts.builds (parts.last, tt)

-- ---- keys are comparisons
eligible_comparison : (tl tr : ℕ → Bool) (c : Condition) → is_eligible tl tr c ≡ true → IsComparison c
eligible_comparison tl tr c h = one (compared_in c) h
  where
    one : (o : Option Compared) → are_eligible tl tr o ≡ true → Compares o
    one (Some k) h = tt
    one None h = absurd cc

pub at_seam : (front : List Condition) (c : Condition) (cs : List Condition) → slice_get (front ++ c ∷ cs) (length front) ≡ Some c
at_seam [] c cs = refl
at_seam (d ∷ front) c cs = at_seam front c cs

length_one : (front : List Condition) (c : Condition) → length (front ++ c ∷ []) ≡ length front + 1
length_one [] c = refl
length_one (d ∷ front) c = let rest = length_one front c in omega (arith, rest)

from_seam : (tl tr : ℕ → Bool) (front cs : List Condition) (k : ℕ) → length front ≡ k → AllByRecursion IsComparison (filter_map (λ i. slice_get (front ++ cs) i) (keys_from tl tr k cs))
from_seam tl tr front [] k at = tt
from_seam tl tr front (c ∷ cs) k at =
    by_tests (condition_can_raise c) (is_eligible tl tr c) refl
    (subst (λ (l : List Condition). AllByRecursion IsComparison (filter_map (λ i. slice_get l i) (keys_from tl tr (k + 1) cs))) (append_assoc front (c ∷ []) cs)
    (from_seam tl tr (front ++ c ∷ []) cs (k + 1) (let long = length_one front c in omega (arith, long, at))))
  where
    by_tests : (a b : Bool) → is_eligible tl tr c ≡ b → AllByRecursion IsComparison (filter_map (λ i. slice_get (front ++ c ∷ cs) i) (keys_from tl tr (k + 1) cs)) →
        AllByRecursion IsComparison (filter_map (λ i. slice_get (front ++ c ∷ cs) i) (if a then [] else if b then k ∷ keys_from tl tr (k + 1) cs else keys_from tl tr (k + 1) cs))
    by_tests true b same h = tt
    by_tests false true same h =
        subst (λ (o : Option Condition). AllByRecursion IsComparison (cons_option o (filter_map (λ i. slice_get (front ++ c ∷ cs) i) (keys_from tl tr (k + 1) cs))))
        (sym (ap (λ (n : ℕ). slice_get (front ++ c ∷ cs) n) (sym at) ∙ at_seam front c cs)) (eligible_comparison tl tr c same, h)
    by_tests false false same h = h

keys_compare : (clean : Bool) (left right : Node) (on : List Condition) → AllByRecursion IsComparison (filter_map (λ k. slice_get on k) (keys_of_join clean left right on))
keys_compare clean left right on = by_test (is_clean_on clean left right) (from_seam (owns left) (owns right) [] on 0 refl)
  where
    by_test : (b : Bool) → AllByRecursion IsComparison (filter_map (λ k. slice_get on k) (keys_from (owns left) (owns right) 0 on)) →
        AllByRecursion IsComparison (filter_map (λ k. slice_get on k) (if b then keys_from (owns left) (owns right) 0 on else []))
    by_test true h = h
    by_test false h = tt

-- ---- plans, whatever their keys are
keyed_typed : (clean : Bool) (node : Node) → AllConjuncts AreTyped node → IsTypedNode (keyed clean node)
keyed_typed clean (scan entry table) h = tt
keyed_typed clean (filter conjuncts below) h = (h.0, keyed_typed clean below h.1)
keyed_typed clean (join outer left right on keys) h =
    (record { on = h.0; keys = keys_compare clean left right on }, (keyed_typed clean left h.1.0, keyed_typed (clean && is_quiet left) right h.1.1))
keyed_typed clean (project below items) h = absurd h

clauses_typed : (query : Specification) → IsSpecification query → AllByRecursion AreTyped (conjuncts_on query.sources ++ query.conjuncts)
clauses_typed query h =
    let P : Condition → Type 0 = IsConditionOver (IsColumnOf (entries_of query.sources)) in
    all_weaker P AreTyped (λ c k. k.0) (conjuncts_on query.sources ++ query.conjuncts) (all_joined P (conjuncts_on query.sources) query.conjuncts (sources_over (entries_of query.sources) 0 query.sources h.sources) h.conjuncts)

pub placed_typed : (query : Specification) (node : Node) → IsSpecification query → IsWellPlaced query node → AreTypedPipelines (pipelines node)
placed_typed query node h placed =
    let from : Node = filter query.conjuncts (from_written query.sources) in
    subst (λ (n : Node). AreTypedPipelines (pipelines n)) (sym placed)
    (pipelines_typed (keyed true (sifted true [] (written query))) (
      all_weaker (IsItemOver (IsColumnOf (entries_of query.sources))) IsValued (λ e k. k.0) query.items h.items,
      keyed_typed true (sifted true [] from) (sifted_all AreTyped from true [] tt (clauses_all AreTyped query (clauses_typed query h))),
    ))
