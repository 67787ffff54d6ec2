-- The pipelines of a plan walk and look up only tables that are filled before them.
use Rattle.std.proofs.Common.{arith, ◌≡◌, ◌∙◌, ℕ, ◌+◌, List, [], ◌∷◌, ◌++◌, map, length, Some, slice_get, refl, sym, ap, subst, append-nil, append_assoc}
use Rattle.std.specs.List.{AllByRecursion}
use Rattle.std.specs.Option.{option_map}
use Rattle.std.proofs.lemmas.Option.{slice_get-map}
use Rattle.qw_algebra.proofs.Lists.{all_append, map_append}
use Rattle.qw_algebra.specs.Node.{Node}
use Rattle.qw_pipe.specs.Pipes as joins
use Rattle.qw_pipe.specs.Pipes.{Step, make, probe, test}
use Rattle.qw_pipe.proofs.Ordering as of_joins
use Rattle.qw_plan.specs.Stages.{Stage, distinct, group, show}
use Rattle.qw_plan.specs.Plan.{Plan, rows, stage}
use Rattle.qw_plan.specs.Pipes.{AreOrdered, EndsInResult, IsTable, LooksUp, Pipeline, Split, Takes, of_specification, pipelines, split, stage_split, target_of, to_result, to_walk, walked}

ordered_append : (before xs ys : List Pipeline) → AreOrdered before xs → AreOrdered (before ++ xs) ys → AreOrdered before (xs ++ ys)
ordered_append before [] ys h g = subst (λ b. AreOrdered b ys) (append-nil before) g
ordered_append before (x ∷ xs) ys h g =
    (h.0, (h.1.0, ordered_append (before ++ x ∷ []) xs ys h.1.1 (subst (λ b. AreOrdered b ys) (sym (append_assoc before (x ∷ []) xs)) g)))

at_end : (front : List Pipeline) (x : Pipeline) → slice_get (front ++ x ∷ []) (length front) ≡ Some x
at_end [] x = refl
at_end (y ∷ front) x = at_end front x

ends_append : (xs : List Pipeline) (last : Pipeline) → AllByRecursion (λ (p : Pipeline). IsTable p.target) xs → last.target ≡ to_result → EndsInResult (xs ++ last ∷ [])
ends_append [] last h g = g
ends_append (x ∷ []) last h g = (h.0, g)
ends_append (x ∷ y ∷ xs) last h g = (h.0, ends_append (y ∷ xs) last h.1 g)

record IsInOrder (s : Split) : Type 0 where
  builds : AreOrdered [] s.builds
  source : Takes s.builds s.last.source
  steps : AllByRecursion (LooksUp s.builds) s.last.steps
  tables : AllByRecursion (λ (p : Pipeline). IsTable p.target) s.builds
  target : s.last.target ≡ to_result

-- ---- the pipelines of a query specification's plan
looks_up : (before : List joins.Pipeline) (steps : List Step) → AllByRecursion (joins.LooksUp before) steps → AllByRecursion (LooksUp (map of_specification before)) steps
looks_up before [] h = tt
looks_up before (test conjuncts ∷ steps) h = (tt, looks_up before steps h.1)
looks_up before (probe table lookup ∷ steps) h =
    let built = h.0 in (
      record {
        pipeline = of_specification built.pipeline;
        stands = slice_get-map of_specification before table ∙ ap (option_map of_specification) built.stands;
        target = ap target_of built.target;
      },
      looks_up before steps h.1,
    )
looks_up before (make items ∷ steps) h = (tt, looks_up before steps h.1)

same_order : (before xs : List joins.Pipeline) → joins.AreOrdered before xs → AreOrdered (map of_specification before) (map of_specification xs)
same_order before [] h = tt
same_order before (x ∷ xs) h =
    (tt, (looks_up before x.steps h.0, subst (λ b. AreOrdered b (map of_specification xs)) (map_append of_specification before (x ∷ [])) (same_order (before ++ x ∷ []) xs h.1)))

is_table : (target : joins.Target) → joins.IsTable target → IsTable (target_of target)
is_table (joins.to_table lookup) h = tt
is_table joins.to_result h = absurd h

are_tables : (xs : List joins.Pipeline) → AllByRecursion (λ (p : joins.Pipeline). joins.IsTable p.target) xs → AllByRecursion (λ (p : Pipeline). IsTable p.target) (map of_specification xs)
are_tables [] h = tt
are_tables (x ∷ xs) h = (is_table x.target h.0, are_tables xs h.1)

of_node : (node : Node) → IsInOrder (split 0 (rows node))
of_node node =
    let h = of_joins.in_order node 0 [] refl in
    record {
      builds = same_order [] (joins.split 0 node).builds h.builds;
      source = tt;
      steps = looks_up (joins.split 0 node).builds (joins.split 0 node).last.steps h.steps;
      tables = are_tables (joins.split 0 node).builds h.tables;
      target = ap target_of h.target;
    }

-- ---- stages
from_zero : (n : ℕ) → n ≡ 0 + n
from_zero n = omega arith

of_walk : (s : Stage) (S : Split) → IsInOrder S → IsInOrder (walked s 0 S)
of_walk s S h =
    let filling : Pipeline = record S.last { target = to_walk s } in
    record {
      builds = ordered_append [] S.builds (filling ∷ []) h.builds (h.source, (h.steps, tt));
      source = record {
        pipeline = filling;
        stands = subst (λ n. slice_get (S.builds ++ filling ∷ []) n ≡ Some filling) (from_zero (length S.builds)) (at_end S.builds filling);
        target = refl;
      };
      steps = tt;
      tables = all_append (λ (p : Pipeline). IsTable p.target) S.builds (filling ∷ []) h.tables (tt, tt);
      target = refl;
    }

of_stage : (s : Stage) (S : Split) → IsInOrder S → IsInOrder (stage_split s 0 S)
of_stage (group columns functions) S h = of_walk (group columns functions) S h
of_stage (show having items) S h = record {
  builds = h.builds;
  source = h.source;
  steps = all_append (LooksUp S.builds) (S.last.steps ++ test having ∷ []) (make items ∷ []) (all_append (LooksUp S.builds) S.last.steps (test having ∷ []) h.steps (tt, tt)) (tt, tt);
  tables = h.tables;
  target = h.target;
}
of_stage distinct S h = of_walk distinct S h

in_order : (p : Plan) → IsInOrder (split 0 p)
in_order (rows node) = of_node node
in_order (stage s below) = of_stage s (split 0 below) (in_order below)

pub ordered : (p : Plan) → AreOrdered [] (pipelines p)
ordered p =
    let h = in_order p in
    ordered_append [] (split 0 p).builds ((split 0 p).last ∷ []) h.builds (h.source, (h.steps, tt))

pub ends : (p : Plan) → EndsInResult (pipelines p)
ends p =
    let h = in_order p in
    ends_append (split 0 p).builds (split 0 p).last h.tables h.target
