-- The units of a plan's pipelines are the plan's, and those of a run are no more.
use Rattle.std.proofs.Common.{arith, ◌≡◌, ◌∙◌, ℕ, ◌+◌, ◌≤◌, List, [], ◌∷◌, ◌++◌, map, length, get_or, refl, sym, ap, length-append}
use Rattle.std.specs.List.{flat_map}
use Rattle.std.proofs.lemmas.List.{get_or_at, length-map}
use Rattle.qw_types.specs.declared.code.Code.{Code}
use Rattle.qw_types.specs.declared.value.Val.{Val}
use Rattle.qw_scalar.specs.Expression.{Condition, Expression}
use Rattle.qw_meaning.specs.Flow.{Flow, each, kept, rows_given, selected}
use Rattle.qw_algebra.specs.Node.{Node, node_flow}
use Rattle.qw_pipe.specs.Pipes as joins
use Rattle.qw_pipe.specs.Pipes.{Step, make, step_flow, steps_flow, test}
use Rattle.qw_pipe.specs.Units as counted
use Rattle.qw_pipe.specs.Units.{Hashing, made_units, step_units, steps_units, tested_units}
use Rattle.qw_pipe.proofs.Counting as counting
use Rattle.qw_pipe.proofs.Splitting.{Splits, splits}
use Rattle.qw_plan.specs.Stages.{Stage, distinct, group, show, stage_flow}
use Rattle.qw_plan.specs.Plan.{Plan, rows, stage}
use Rattle.qw_plan.specs.Pipes.{Pipeline, Split, of_specification, pipeline_flow, pipelines, source_flow, split, stage_split, then_step, to_walk, walked}
use Rattle.qw_plan.proofs.Runs.{steps_more}
use Rattle.qw_whole.specs.GroupTables.{unraised}
use Rattle.qw_whole.specs.PipeUnits.{all_filled, and_filled, pipeline_units, pipelines_units, run_units, units_unless}
use Rattle.qw_whole.specs.PlanBounds.{plan_rows, plan_units, stage_units}

module _ (h : Hashing) (tables : List (List (List Val))) where
  -- ---- lists of pipelines
  filled_append : (built : List (List (List Val))) (xs ys : List Pipeline) → all_filled tables built (xs ++ ys) ≡ all_filled tables (all_filled tables built xs) ys
  filled_append built [] ys = refl
  filled_append built (x ∷ xs) ys = filled_append (and_filled tables built x) xs ys

  units_append : (built : List (List (List Val))) (xs ys : List Pipeline)
      → pipelines_units h tables built (xs ++ ys) ≡ pipelines_units h tables built xs + pipelines_units h tables (all_filled tables built xs) ys
  units_append built [] ys = omega arith
  units_append built (x ∷ xs) ys = omega (arith, units_append (and_filled tables built x) xs ys)

  steps_units_more : (built : List (List (List Val))) (steps : List Step) (s : Step) (f : Flow (List Val))
      → steps_units h built (steps ++ s ∷ []) f ≡ steps_units h built steps f + step_units h built s (steps_flow built steps f)
  steps_units_more built [] s f = omega arith
  steps_units_more built (x ∷ steps) s f = omega (arith, steps_units_more built steps s (step_flow built x f))

  then_flow : (built : List (List (List Val))) (p : Pipeline) (s : Step) → pipeline_flow tables built (then_step p s) ≡ step_flow built s (pipeline_flow tables built p)
  then_flow built p s = steps_more built p.steps s (source_flow tables built p.source)

  then_units : (built : List (List (List Val))) (p : Pipeline) (s : Step)
      → pipeline_units h tables built (then_step p s) ≡ pipeline_units h tables built p + step_units h built s (pipeline_flow tables built p)
  then_units built p s = omega (arith, steps_units_more built p.steps s (source_flow tables built p.source))

  -- what the pipelines of a plan come to, as if nothing were raised
  record Counts (s : Split) (made : List (List Val)) (whole : ℕ) : Type 0 where
    rows : (pipeline_flow tables (all_filled tables [] s.builds) s.last).rows ≡ made
    units : pipelines_units h tables [] s.builds + pipeline_units h tables (all_filled tables [] s.builds) s.last ≡ whole
    count : length (all_filled tables [] s.builds) ≡ length s.builds

  -- ---- of a query specification
  filled_same : (built : List (List (List Val))) (codes : List Code) (xs : List joins.Pipeline)
      → all_filled tables built (map of_specification xs) ≡ (joins.after_pipelines tables (record { built = built; codes = codes }) xs).built
  filled_same built codes [] = refl
  filled_same built codes (x ∷ xs) = filled_same (and_filled tables built (of_specification x)) (codes ++ (joins.pipeline_flow tables built x).codes) xs

  units_same : (built : List (List (List Val))) (codes : List Code) (xs : List joins.Pipeline)
      → pipelines_units h tables built (map of_specification xs) ≡ counted.pipelines_units h tables (record { built = built; codes = codes }) xs
  units_same built codes [] = refl
  units_same built codes (x ∷ xs) =
      ap (λ (n : ℕ). pipeline_units h tables built (of_specification x) + n) (units_same (and_filled tables built (of_specification x)) (codes ++ (joins.pipeline_flow tables built x).codes) xs)

  node_counts : (node : Node) → Counts (split 0 (rows node)) (node_flow tables node).rows (counted.units_of h tables node)
  node_counts node =
      let start : joins.Progress = record { built = []; codes = [] } in
      let builds : List joins.Pipeline = (joins.split 0 node).builds in
      let last : joins.Pipeline = (joins.split 0 node).last in
      let done : joins.Progress = joins.after_pipelines tables start builds in
      let s : Splits tables 0 node start = splits tables node 0 start refl in
      let same : all_filled tables [] (map of_specification builds) ≡ done.built = filled_same [] [] builds in
      record {
        rows = ap (λ (built : List (List (List Val))). (joins.pipeline_flow tables built last).rows) same ∙ ap (λ (p : joins.Progress). (joins.pipeline_flow tables p.built last).rows) s.is ∙ s.rows;
        units = ap (λ (n : ℕ). n + pipeline_units h tables (all_filled tables [] (map of_specification builds)) (of_specification last)) (units_same [] [] builds)
            ∙ ap (λ (built : List (List (List Val))). counted.pipelines_units h tables start builds + counted.pipeline_units h tables built last) same
            ∙ counting.same_units h tables node 0 start refl;
        count = ap (λ (built : List (List (List Val))). length built) same ∙ ap (λ (p : joins.Progress). length p.built) s.is ∙ ap (λ (built : List (List (List Val))). length built) s.built
            ∙ s.count ∙ sym (length-map builds of_specification);
      }

  -- ---- a stage that needs all rows
  last_filled : (front : List (List (List Val))) (rs : List (List Val)) (n : ℕ) → length front ≡ n → get_or (front ++ rs ∷ []) n [] ≡ rs
  last_filled front rs n long = get_or_at front rs [] [] n long

  sums : (whole before one walk u v w : ℕ) → whole ≡ before + (one + 0) → before + one ≡ u → v ≡ w → walk ≡ v + 0 → whole + walk ≡ u + w
  sums whole before one walk u v w e f g k = omega (arith, e, f, g, k)

  walk_counts : (s : Stage) (S : Split) (made : List (List Val)) (units : ℕ) → Counts S made units → Counts (walked s 0 S) (stage_flow s (unraised made)).rows (units + stage_units h s made)
  walk_counts s S made units c =
      let filling : Pipeline = record S.last { target = to_walk s } in
      let built : List (List (List Val)) = all_filled tables [] S.builds in
      let rs : List (List Val) = (pipeline_flow tables built S.last).rows in
      let now : all_filled tables [] (S.builds ++ filling ∷ []) ≡ built ++ rs ∷ [] = filled_append [] S.builds (filling ∷ []) in
      let n : ℕ = 0 + length S.builds in
      let there : get_or (all_filled tables [] (S.builds ++ filling ∷ [])) n [] ≡ made =
      ap (λ (b : List (List (List Val))). get_or b n []) now ∙ last_filled built rs n (let k = c.count in omega (arith, k)) ∙ c.rows in
      let other : pipelines_units h tables [] (S.builds ++ filling ∷ []) ≡ pipelines_units h tables [] S.builds + (pipeline_units h tables built S.last + 0) = units_append [] S.builds (filling ∷ []) in
      record {
        rows = ap (λ (xs : List (List Val)). (stage_flow s (unraised xs)).rows) there;
        units = sums (pipelines_units h tables [] (S.builds ++ filling ∷ [])) (pipelines_units h tables [] S.builds) (pipeline_units h tables built S.last)
            (stage_units h s (get_or (all_filled tables [] (S.builds ++ filling ∷ [])) n []) + 0) units (stage_units h s (get_or (all_filled tables [] (S.builds ++ filling ∷ [])) n [])) (stage_units h s made)
            other c.units (ap (stage_units h s) there) refl;
        count = ap (λ (b : List (List (List Val))). length b) now ∙ length-append built (rs ∷ []) ∙ ap (λ (k : ℕ). k + 1) c.count ∙ sym (length-append S.builds (filling ∷ []));
      }

  -- ---- HAVING and a select list
  three : (before p q r t m u w : ℕ) → r ≡ q + m → q ≡ p + t → before + p ≡ u → t + m ≡ w → before + r ≡ u + w
  three before p q r t m u w e f g k = omega (arith, e, f, g, k)

  show_counts : (having : List Condition) (items : List Expression) (S : Split) (made : List (List Val)) (units : ℕ) → Counts S made units
      → Counts (stage_split (show having items) 0 S) (stage_flow (show having items) (unraised made)).rows (units + stage_units h (show having items) made)
  show_counts having items S made units c =
      let built : List (List (List Val)) = all_filled tables [] S.builds in
      let F : Flow (List Val) = pipeline_flow tables built S.last in
      let tested : Pipeline = then_step S.last (test having) in
      let shown : Pipeline = then_step tested (make items) in
      let tested_flow : pipeline_flow tables built tested ≡ each (kept having) F = then_flow built S.last (test having) in
      let shown_flow : pipeline_flow tables built shown ≡ each (selected items) (each (kept having) F) = then_flow built tested (make items) ∙ ap (each (selected items)) tested_flow in
      record {
        rows = ap (λ (f : Flow (List Val)). f.rows) shown_flow
            ∙ ap (λ (rs : List (List Val)). flat_map (λ (row : List Val). rows_given (selected items row)) (flat_map (λ (row : List Val). rows_given (kept having row)) rs)) c.rows;
        units = three (pipelines_units h tables [] S.builds) (pipeline_units h tables built S.last) (pipeline_units h tables built tested) (pipeline_units h tables built shown)
            (tested_units having F.rows) (made_units items (each (kept having) F).rows) units (stage_units h (show having items) made)
            (then_units built tested (make items) ∙ ap (λ (f : Flow (List Val)). pipeline_units h tables built tested + made_units items f.rows) tested_flow)
            (then_units built S.last (test having)) c.units (ap (stage_units h (show having items)) c.rows);
        count = c.count;
      }

  stage_counts : (s : Stage) (S : Split) (made : List (List Val)) (units : ℕ) → Counts S made units → Counts (stage_split s 0 S) (stage_flow s (unraised made)).rows (units + stage_units h s made)
  stage_counts (group columns functions) S made units c = walk_counts (group columns functions) S made units c
  stage_counts (show having items) S made units c = show_counts having items S made units c
  stage_counts distinct S made units c = walk_counts distinct S made units c

  -- ---- any plan
  counts : (p : Plan) → Counts (split 0 p) (plan_rows tables p) (plan_units h tables p)
  counts (rows node) = node_counts node
  counts (stage s below) = stage_counts s (split 0 below) (plan_rows tables below) (plan_units h tables below) (counts below)

  pub rows_are : (p : Plan) → (pipeline_flow tables (all_filled tables [] (split 0 p).builds) (split 0 p).last).rows ≡ plan_rows tables p
  rows_are p = let c = counts p in c.rows

  pub units_are : (p : Plan) → pipelines_units h tables [] (pipelines p) ≡ plan_units h tables p
  units_are p =
      let c = counts p in
      let a = c.units in
      let b = units_append [] (split 0 p).builds ((split 0 p).last ∷ []) in
      omega (arith, a, b)

  less : (codes : List Code) (n m : ℕ) → n ≤ m → units_unless codes n ≤ m
  less [] n m e = e
  less (code ∷ codes) n m e = omega arith

  run_less : (built : List (List (List Val))) (ps : List Pipeline) → run_units h tables built ps ≤ pipelines_units h tables built ps
  run_less built [] = omega arith
  run_less built (p ∷ ps) =
      let n : ℕ = run_units h tables (and_filled tables built p) ps in
      let e = less (pipeline_flow tables built p).codes n (pipelines_units h tables (and_filled tables built p) ps) (run_less (and_filled tables built p) ps) in
      omega (arith, e)

  pub run_within : (p : Plan) → run_units h tables [] (pipelines p) ≤ plan_units h tables p
  run_within p =
      let a = run_less [] (pipelines p) in
      let b = units_are p in
      omega (arith, a, b)
