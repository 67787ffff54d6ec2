-- The keys of lookups compare operands of one kind, and each lookup is served by a pipeline before its own.
use Rattle.std.proofs.Common.{◌≡◌, ℕ, ◌+◌, ◌&&◌, if◌then◌else◌, Bool, true, false, List, [], ◌∷◌, ◌++◌, length, length-append, append-nil, append_assoc, slice_get, refl, sym, subst, subst₂}
use Rattle.std.specs.List.{AllByRecursion, filter_map}
use Rattle.qw_scalar.specs.Expression.{Condition}
use Rattle.qw_meaning.specs.Select.{Specification}
use Rattle.qw_raise.specs.Raise.{condition_can_raise}
use Rattle.qw_algebra.specs.Columns.{owns}
use Rattle.qw_algebra.specs.Node.{Node, scan, filter, join, project}
use Rattle.qw_algebra.specs.Written.{written}
use Rattle.qw_rewrite.specs.Placed.{IsWellPlaced}
use Rattle.qw_rewrite.specs.Probe.{is_eligible, keyed, keys_from, keys_of_join}
use Rattle.qw_rewrite.specs.Sift.{is_clean_on, is_quiet, sifted}
use Rattle.qw_pipe.specs.Pipes.{AreOrdered, LooksUp, Pipeline, Step, make, pipelines, probe, split, test}
use Rattle.qw_physical.specs.Spelled.{all_spelled, spelled_steps}
use Rattle.qw_physical.specs.declared.pipeline.ReadColumn.{ReadColumn}
use Rattle.qw_physical.proofs.ServedBy.{AreServedBy, HaveAlike, IsAlike, eligible_alike, spelled_served}
use Rattle.qw_physical.proofs.Plans.{at_seam}
use Rattle.qw_leaves.proofs.LeafLists.{all_joined}

-- ---- of a plan
abbrev pub KeysAlike : Node → Type 0
KeysAlike (scan entry table) = Unit {0}
KeysAlike (filter conjuncts below) = KeysAlike below
KeysAlike (join outer left right on keys) = AllByRecursion IsAlike (filter_map (λ k. slice_get on k) keys) × KeysAlike left × KeysAlike right
KeysAlike (project below items) = KeysAlike below

alike_found : (l r : ℕ → Bool) (front cs : List Condition) → AllByRecursion IsAlike (filter_map (λ k. slice_get (front ++ cs) k) (keys_from l r (length front) cs))
alike_found l r front [] = tt
alike_found l r front (c ∷ cs) =
    one (condition_can_raise c) (is_eligible l r c) refl
    (subst₂ (λ (all : List Condition) (k : ℕ). AllByRecursion IsAlike (filter_map (λ j. slice_get all j) (keys_from l r k cs))) (append_assoc front (c ∷ []) cs) (length-append front (c ∷ [])) (alike_found l r (front ++ c ∷ []) cs))
  where
    one : (a b : Bool) → is_eligible l r c ≡ b → AllByRecursion IsAlike (filter_map (λ j. slice_get (front ++ c ∷ cs) j) (keys_from l r (length front + 1) cs)) →
        AllByRecursion IsAlike (filter_map (λ j. slice_get (front ++ c ∷ cs) j) (if a then [] else if b then length front ∷ keys_from l r (length front + 1) cs else keys_from l r (length front + 1) cs))
    one true b e h = tt
    one false true e h = rw (at_seam front c cs) (eligible_alike l r c e, h)
    one false false e h = h

join_alike : (clean : Bool) (left right : Node) (on : List Condition) → AllByRecursion IsAlike (filter_map (λ k. slice_get on k) (keys_of_join clean left right on))
join_alike clean left right on = one (is_clean_on clean left right)
  where
    one : (b : Bool) → AllByRecursion IsAlike (filter_map (λ k. slice_get on k) (if b then keys_from (owns left) (owns right) 0 on else []))
    one true = alike_found (owns left) (owns right) [] on
    one false = tt

pub keyed_alike : (clean : Bool) (node : Node) → KeysAlike (keyed clean node)
keyed_alike clean (scan entry table) = tt
keyed_alike clean (filter conjuncts below) = keyed_alike clean below
keyed_alike clean (join outer left right on keys) = (join_alike clean left right on, keyed_alike clean left, keyed_alike (clean && is_quiet left) right)
keyed_alike clean (project below items) = keyed_alike clean below

-- ---- of its pipelines
alike_then : (steps : List Step) (s : Step) → HaveAlike steps → HaveAlike (s ∷ []) → HaveAlike (steps ++ s ∷ [])
alike_then [] s one last = last
alike_then (test conjuncts ∷ steps) s one last = alike_then steps s one last
alike_then (probe table lookup ∷ steps) s one last = (one.0, alike_then steps s one.1 last)
alike_then (make items ∷ steps) s one last = alike_then steps s one last

abbrev pub HasAlike : Pipeline → Type 0
HasAlike p = HaveAlike p.steps

split_alike : (next : ℕ) (node : Node) → KeysAlike node → AllByRecursion HasAlike (split next node).builds × HasAlike (split next node).last
split_alike next (scan entry table) alike = (tt, tt)
split_alike next (filter conjuncts below) alike = let rest = split_alike next below alike in (rest.0, alike_then (split next below).last.steps (test conjuncts) rest.1 tt)
split_alike next (join outer left right on keys) alike =
    let built = split_alike next right alike.2 in
    let m : ℕ = next + length (split next right).builds in
    let rest = split_alike (m + 1) left alike.1 in (
      all_joined HasAlike (split next right).builds _ built.0 (built.1, rest.0),
      alike_then (split (m + 1) left).last.steps _ rest.1 (alike.0, tt),
    )
split_alike next (project below items) alike = let rest = split_alike next below alike in (rest.0, alike_then (split next below).last.steps (make items) rest.1 tt)

pub pipelines_alike : (node : Node) → KeysAlike node → AllByRecursion HasAlike (pipelines node)
pipelines_alike node alike = let both = split_alike 0 node alike in all_joined HasAlike (split 0 node).builds ((split 0 node).last ∷ []) both.0 (both.1, tt)

-- of a well placed plan
pub placed_alike : (query : Specification) (node : Node) → IsWellPlaced query node → AllByRecursion HasAlike (pipelines node)
placed_alike query node placed = pipelines_alike node (subst KeysAlike (sym placed) (keyed_alike true (sifted true [] (written query))))

-- ---- served by those before
ordered_at : (start before : List Pipeline) (p : Pipeline) (after : List Pipeline) → AreOrdered start (before ++ p ∷ after) → AllByRecursion (LooksUp (start ++ before)) p.steps
ordered_at start [] p after ordered = subst (λ (l : List Pipeline). AllByRecursion (LooksUp l) p.steps) (sym (append-nil start)) ordered.0
ordered_at start (q ∷ before) p after ordered = subst (λ (l : List Pipeline). AllByRecursion (LooksUp l) p.steps) (append_assoc start (q ∷ []) before) (ordered_at (start ++ q ∷ []) before p after ordered.1)

alike_at : (before : List Pipeline) (p : Pipeline) (after : List Pipeline) → AllByRecursion HasAlike (before ++ p ∷ after) → HasAlike p
alike_at [] p after all = all.0
alike_at (q ∷ before) p after all = alike_at before p after all.1

pub served_at : (columns : List ReadColumn) (before : List Pipeline) (p : Pipeline) (after : List Pipeline) → AreOrdered [] (before ++ p ∷ after) → AllByRecursion HasAlike (before ++ p ∷ after) → AreServedBy (all_spelled columns 0 before) (spelled_steps columns p.steps)
served_at columns before p after ordered alike = spelled_served columns 0 before p.steps (ordered_at [] before p after ordered) (alike_at before p after alike)
