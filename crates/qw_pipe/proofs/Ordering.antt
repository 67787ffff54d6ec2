-- The pipelines of a plan look up only tables that are built before them.
use Rattle.std.proofs.Common.{◌≡◌, ◌∙◌, ℕ, ◌+◌, List, [], ◌∷◌, ◌++◌, length, Some, slice_get, refl, sym, ap, subst, append-nil, append_assoc, length-append}
use Rattle.std.specs.List.{AllByRecursion}
use Rattle.qw_algebra.specs.Node.{Node, scan, filter, join, project}
use Rattle.qw_algebra.proofs.Lists.{all_append}
use Rattle.qw_pipe.specs.Pipes.{AreOrdered, EndsInResult, IsTable, Lookup, LooksUp, Pipeline, Split, make, pipelines, probe, split, test, to_result, to_table}
use Rattle.qw_algebra.specs.Columns.{entries_below}

ordered_append : (before xs ys : List Pipeline) → AreOrdered before xs → AreOrdered (before ++ xs) ys → AreOrdered before (xs ++ ys)
ordered_append before [] ys h g = subst (λ b. AreOrdered b ys) (append-nil before) g
ordered_append before (x ∷ xs) ys h g = (h.0, ordered_append (before ++ x ∷ []) xs ys h.1 (subst (λ b. AreOrdered b ys) (sym (append_assoc before (x ∷ []) xs)) g))

at_seam : (front : List Pipeline) (x : Pipeline) (own : List Pipeline) → slice_get (front ++ x ∷ own) (length front) ≡ Some x
at_seam [] x own = refl
at_seam (y ∷ front) x own = at_seam front x own

ends_append : (xs : List Pipeline) (last : Pipeline) → AllByRecursion (λ (p : Pipeline). IsTable p.target) xs → last.target ≡ to_result → EndsInResult (xs ++ last ∷ [])
ends_append [] last h g = g
ends_append (x ∷ []) last h g = (h.0, g)
ends_append (x ∷ y ∷ xs) last h g = (h.0, ends_append (y ∷ xs) last h.1 g)

pub record IsInOrder (before : List Pipeline) (s : Split) : Type 0 where
  pub builds : AreOrdered before s.builds
  pub steps : AllByRecursion (LooksUp (before ++ s.builds)) s.last.steps
  pub tables : AllByRecursion (λ (p : Pipeline). IsTable p.target) s.builds
  pub target : s.last.target ≡ to_result

pub in_order : (node : Node) (next : ℕ) (before : List Pipeline) → length before ≡ next → IsInOrder before (split next node)
in_order (scan entry table) next before e = record { builds = tt; steps = tt; tables = tt; target = refl }
in_order (filter conjuncts below) next before e =
    let h = in_order below next before e in
    record {
      builds = h.builds;
      steps = all_append (LooksUp (before ++ (split next below).builds)) (split next below).last.steps (test conjuncts ∷ []) h.steps (tt, tt);
      tables = h.tables;
      target = h.target;
    }
in_order (join outer left right on keys) next before e =
    let r = in_order right next before e in
    let lookup : Lookup = record { entries = entries_below right; outer = outer; on = on; keys = keys } in
    let builds : List Pipeline = (split next right).builds in
    let built : Pipeline = record (split next right).last { target = to_table lookup } in
    let m : ℕ = next + length builds in
    let long : length (before ++ builds) ≡ m = length-append before builds ∙ ap (λ k. k + length builds) e in
    let l = in_order left (m + 1) ((before ++ builds) ++ built ∷ []) (length-append (before ++ builds) (built ∷ []) ∙ ap (λ k. k + 1) long) in
    let rest : Split = split (m + 1) left in
    let whole : ((before ++ builds) ++ built ∷ []) ++ rest.builds ≡ before ++ (builds ++ built ∷ rest.builds) =
    append_assoc (before ++ builds) (built ∷ []) rest.builds ∙ append_assoc before builds (built ∷ rest.builds) in
    let stands : slice_get (before ++ (builds ++ built ∷ rest.builds)) m ≡ Some built =
    subst (λ ps. slice_get ps m ≡ Some built) (append_assoc before builds (built ∷ rest.builds))
    (subst (λ k. slice_get ((before ++ builds) ++ built ∷ rest.builds) k ≡ Some built) long (at_seam (before ++ builds) built rest.builds)) in
    record {
      builds = ordered_append before builds (built ∷ rest.builds) r.builds (r.steps, l.builds);
      steps = all_append (LooksUp (before ++ (builds ++ built ∷ rest.builds))) rest.last.steps (probe m lookup ∷ [])
          (subst (λ ps. AllByRecursion (LooksUp ps) rest.last.steps) whole l.steps) (record { pipeline = built; stands = stands; target = refl }, tt);
      tables = all_append (λ (p : Pipeline). IsTable p.target) builds (built ∷ rest.builds) r.tables (tt, l.tables);
      target = l.target;
    }
in_order (project below items) next before e =
    let h = in_order below next before e in
    record {
      builds = h.builds;
      steps = all_append (LooksUp (before ++ (split next below).builds)) (split next below).last.steps (make items ∷ []) h.steps (tt, tt);
      tables = h.tables;
      target = h.target;
    }

pub ordered : (node : Node) → AreOrdered [] (pipelines node)
ordered node =
    let h = in_order node 0 [] refl in
    ordered_append [] (split 0 node).builds ((split 0 node).last ∷ []) h.builds (h.steps, tt)

pub ends : (node : Node) → EndsInResult (pipelines node)
ends node =
    let h = in_order node 0 [] refl in
    ends_append (split 0 node).builds (split 0 node).last h.tables h.target
