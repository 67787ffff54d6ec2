-- The units of a plan's pipelines are the plan's.
use Rattle.std.proofs.Common.{◌≡◌, ◌∙◌, ℕ, ◌+◌, List, [], ◌∷◌, ◌++◌, length, get_or, sum_by, refl, ap, ap₂, arith, length-append}
use Rattle.qw_types.specs.Contents.{rows_of}
use Rattle.qw_types.specs.declared.value.Val.{Val}
use Rattle.qw_scalar.specs.Evaluation.{at_row}
use Rattle.qw_scalar.specs.Expression.{Condition, Expression}
use Rattle.qw_scalar.specs.Units.{units_of_all, units_of_items}
use Rattle.qw_meaning.specs.Flow.{Flow, each, kept}
use Rattle.qw_meaning.specs.From.{entry_flow, from_sources}
use Rattle.qw_meaning.specs.Select.{Entry, alone}
use Rattle.qw_algebra.specs.Node.{Node, scan, filter, join, project, node_flow}
use Rattle.qw_algebra.specs.Written.{written}
use Rattle.qw_pipe.specs.Pipes.{Pipeline, Progress, Step, after_pipeline, after_pipelines, make, pipeline_flow, pipelines, probe, split, step_flow, steps_flow, test, then_step}
use Rattle.qw_pipe.specs.Units.{Hashing, made_units, pipeline_units, pipelines_units, step_units, steps_units, table_units, tested_units, units_of}
use Rattle.qw_pipe.proofs.Splitting.{building, lookup, pipelines_append, splits, table_built}

module _ (h : Hashing) (tables : List (List (List Val))) where
  steps_units_more : (built : List (List (List Val))) (steps : List Step) (s : Step) (f : Flow (List Val))
      → steps_units h built (steps ++ s ∷ []) f ≡ steps_units h built steps f + step_units h built s (steps_flow built steps f)
  steps_units_more built [] s f = omega arith
  steps_units_more built (x ∷ steps) s f = omega (arith, steps_units_more built steps s (step_flow built x f))

  then_units : (built : List (List (List Val))) (p : Pipeline) (s : Step)
      → pipeline_units h tables built (then_step p s) ≡ pipeline_units h tables built p + step_units h built s (pipeline_flow tables built p)
  then_units built p s = omega (arith, steps_units_more built p.steps s (entry_flow tables p.entry p.table))

  units_append : (p : Progress) (xs ys : List Pipeline)
      → pipelines_units h tables p (xs ++ ys) ≡ pipelines_units h tables p xs + pipelines_units h tables (after_pipelines tables p xs) ys
  units_append p [] ys = omega arith
  units_append p (x ∷ xs) ys = omega (arith, units_append (after_pipeline tables p x) xs ys)

  rows_there : (node : Node) (next : ℕ) (start : Progress) → length start.built ≡ next
      → (pipeline_flow tables (after_pipelines tables start (split next node).builds).built (split next node).last).rows ≡ (node_flow tables node).rows
  rows_there node next start long =
      let s = splits tables node next start long in
      ap (λ (p : Progress). (pipeline_flow tables p.built (split next node).last).rows) s.is ∙ s.rows

  one_step : (b p whole step u v : ℕ) → whole ≡ p + step → b + p ≡ u → step ≡ v → b + whole ≡ u + v
  one_step b p whole step u v e h g = omega arith

  two_sides : (whole right mid left p opened step u v w : ℕ) → whole ≡ right + (mid + left) → opened ≡ p + step → right + mid ≡ v → left + p ≡ u → step ≡ w → whole + opened ≡ u + v + w
  two_sides whole right mid left p opened step u v w e f g h k = omega arith

  -- the units of a plan's pipelines are the plan's
  pub same_units : (node : Node) (next : ℕ) (start : Progress) → length start.built ≡ next
      → pipelines_units h tables start (split next node).builds + pipeline_units h tables (after_pipelines tables start (split next node).builds).built (split next node).last
      ≡ units_of h tables node
  same_units (scan entry table) next start long = omega arith
  same_units (filter conjuncts below) next start long =
      let built : List (List (List Val)) = (after_pipelines tables start (split next below).builds).built in
      one_step (pipelines_units h tables start (split next below).builds) (pipeline_units h tables built (split next below).last)
      (pipeline_units h tables built (then_step (split next below).last (test conjuncts))) (tested_units conjuncts (pipeline_flow tables built (split next below).last).rows)
      (units_of h tables below) (tested_units conjuncts (node_flow tables below).rows)
      (then_units built (split next below).last (test conjuncts)) (same_units below next start long) (ap (tested_units conjuncts) (rows_there below next start long))
  same_units (join outer left right on keys) next start long =
      let m : ℕ = next + length (split next right).builds in
      let s = splits tables right next start long in
      let before : Progress = after_pipelines tables start (split next right).builds in
      let mid : Progress = after_pipeline tables before (building tables outer next right on keys) in
      let R : Flow (List Val) = pipeline_flow tables before.built (split next right).last in
      let built_before : length before.built ≡ m =
      ap (λ (p : Progress). length p.built) s.is ∙ ap length s.built ∙ length-append start.built s.own ∙ (rw (long, s.count) refl) in
      let long_mid : length mid.built ≡ m + 1 = length-append before.built (R.rows ∷ []) ∙ ap (λ k. k + 1) built_before in
      let l = splits tables left (m + 1) mid long_mid in
      let whole : after_pipelines tables start ((split next right).builds ++ building tables outer next right on keys ∷ (split (m + 1) left).builds) ≡ after_pipelines tables mid (split (m + 1) left).builds =
      pipelines_append tables start (split next right).builds (building tables outer next right on keys ∷ (split (m + 1) left).builds) in
      let done : Progress = after_pipelines tables mid (split (m + 1) left).builds in
      let last : Pipeline = (split (m + 1) left).last in
      let there : get_or done.built m [] ≡ (node_flow tables right).rows =
      table_built tables before.built R.rows l.own m done.built (ap (λ (p : Progress). p.built) l.is ∙ l.built) built_before
      ∙ rows_there right next start long in
      ap (λ (p : Progress). pipelines_units h tables start ((split next right).builds ++ building tables outer next right on keys ∷ (split (m + 1) left).builds)
      + pipeline_units h tables p.built (then_step last (probe m (lookup tables outer right on keys)))) whole
      ∙ two_sides (pipelines_units h tables start ((split next right).builds ++ building tables outer next right on keys ∷ (split (m + 1) left).builds))
      (pipelines_units h tables start (split next right).builds) (pipeline_units h tables before.built (split next right).last)
      (pipelines_units h tables mid (split (m + 1) left).builds) (pipeline_units h tables done.built last)
      (pipeline_units h tables done.built (then_step last (probe m (lookup tables outer right on keys))))
      (table_units h (lookup tables outer right on keys) (pipeline_flow tables done.built last).rows (get_or done.built m []))
      (units_of h tables left) (units_of h tables right) (table_units h (lookup tables outer right on keys) (node_flow tables left).rows (node_flow tables right).rows)
      (units_append start (split next right).builds (building tables outer next right on keys ∷ (split (m + 1) left).builds))
      (then_units done.built last (probe m (lookup tables outer right on keys))) (same_units right next start long) (same_units left (m + 1) mid long_mid)
      (ap₂ (λ ls rs. table_units h (lookup tables outer right on keys) ls rs) (rows_there left (m + 1) mid long_mid) there)
  same_units (project below items) next start long =
      let built : List (List (List Val)) = (after_pipelines tables start (split next below).builds).built in
      let f : Flow (List Val) = pipeline_flow tables built (split next below).last in
      one_step (pipelines_units h tables start (split next below).builds) (pipeline_units h tables built (split next below).last)
      (pipeline_units h tables built (then_step (split next below).last (make items))) (made_units items f.rows)
      (units_of h tables below) (made_units items (node_flow tables below).rows)
      (then_units built (split next below).last (make items)) (same_units below next start long)
      (ap (made_units items) (rows_there below next start long))

  pub pipelines_units_are : (node : Node) → pipelines_units h tables (record { built = []; codes = [] }) (pipelines node) ≡ units_of h tables node
  pipelines_units_are node =
      let start : Progress = record { built = []; codes = [] } in
      omega (arith, units_append start (split 0 node).builds ((split 0 node).last ∷ []), same_units node 0 start refl)

-- of a query over one table
pub one_table : (h : Hashing) (tables : List (List (List Val))) (entry : Entry) (conjuncts : List Condition) (items : List Expression) →
    units_of h tables (written (record { sources = alone entry ∷ []; conjuncts = conjuncts; items = items }))
    ≡ length (rows_of tables entry.table)
    + (sum_by (λ (row : List Val). units_of_all conjuncts (at_row row)) (from_sources (alone entry ∷ []) tables).rows
    + sum_by (λ (row : List Val). units_of_items items (at_row row)) (each (kept conjuncts) (from_sources (alone entry ∷ []) tables)).rows)
one_table h tables entry conjuncts items = omega arith
