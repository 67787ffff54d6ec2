-- The pipelines of the plan of a whole query, in the order in which they run: each but the last fills a table, the last makes the rows of the plan. A
-- pipeline of a query specification scans an entry of FROM; a stage that needs all rows below it has them put into a table, which another pipeline
-- walks. With UNION ALL several pipelines will fill one table, or make the rows of the plan, one behind another.
use Rattle.std.specs.Prelude.{◌≡◌, ℕ, ◌+◌, ◌≤◌, List, [], ◌∷◌, ◌++◌, map, length, get_or, ◌⊎◌, Some, slice_get}
use Rattle.std.specs.List.{AllByRecursion, Contains}
use Rattle.qw_types.specs.declared.code.Code.{Code}
use Rattle.qw_types.specs.declared.value.Val.{Val}
use Rattle.qw_meaning.specs.Flow.{Flow}
use Rattle.qw_meaning.specs.From.{entry_flow}
use Rattle.qw_pipe.specs.Pipes as joins
use Rattle.qw_pipe.specs.Pipes.{Lookup, Step, make, probe, steps_flow, test}
use Rattle.qw_plan.specs.Stages.{Stage, distinct, group, show, stage_flow}
use Rattle.qw_plan.specs.Plan.{Plan, rows, stage}

-- where the rows come from that go through a pipeline's steps
pub data Source : Type 0 where
  -- an entry of FROM, by its number and its table's
  scan : (entry table : ℕ) → Source
  -- what a stage makes of all rows of a table that was filled: a table's groups, or its distinct rows
  walk : Stage → (table : ℕ) → Source

-- into what they go
pub data Target : Type 0 where
  -- a table that a step of a later pipeline looks up in this way
  to_lookup : Lookup → Target
  -- a table that a later pipeline walks for this stage
  to_walk : Stage → Target
  to_result : Target

pub record Pipeline : Type 0 where
  pub source : Source
  pub steps : List Step
  pub target : Target

-- those that fill tables, numbered from 0 in their order, and the one that makes the rows of the plan
pub record Split : Type 0 where
  pub builds : List Pipeline
  pub last : Pipeline

-- what a pipeline of a query specification's plan is among these
abbrev pub target_of : joins.Target → Target
target_of (joins.to_table lookup) = to_lookup lookup
target_of joins.to_result = to_result

abbrev pub of_specification : joins.Pipeline → Pipeline
of_specification p = record { source = scan p.entry p.table; steps = p.steps; target = target_of p.target }

abbrev pub then_step : Pipeline → Step → Pipeline
then_step p s = record p { steps = p.steps ++ s ∷ [] }

-- The rows go into the next table, which is walked.
abbrev pub walked : Stage → (next : ℕ) → Split → Split
walked s next below = record {
  builds = below.builds ++ record below.last { target = to_walk s } ∷ [];
  last = record { source = walk s (next + length below.builds); steps = []; target = to_result };
}

abbrev pub stage_split : Stage → (next : ℕ) → Split → Split
stage_split (group columns functions) next below = walked (group columns functions) next below
stage_split (show having items) next below = record { builds = below.builds; last = then_step (then_step below.last (test having)) (make items) }
stage_split distinct next below = walked distinct next below

-- where tables before number `next` are filled already
abbrev pub split : (next : ℕ) → Plan → Split
split next (rows node) = record { builds = map of_specification (joins.split next node).builds; last = of_specification (joins.split next node).last }
split next (stage s below) = stage_split s next (split next below)

abbrev pub pipelines : Plan → List Pipeline
pipelines p = (split 0 p).builds ++ (split 0 p).last ∷ []

-- ---- in which order they stand

-- a table that a pipeline before fills for this purpose
pub record IsFilled (before : List Pipeline) (table : ℕ) (purpose : Target) : Type 0 where
  pub pipeline : Pipeline
  pub stands : slice_get before table ≡ Some pipeline
  pub target : pipeline.target ≡ purpose

abbrev pub Takes : (before : List Pipeline) → Source → Type 0
Takes before (scan entry table) = Unit {0}
Takes before (walk s table) = IsFilled before table (to_walk s)

abbrev pub LooksUp : (before : List Pipeline) → Step → Type 0
LooksUp before (test conjuncts) = Unit {0}
LooksUp before (probe table lookup) = IsFilled before table (to_lookup lookup)
LooksUp before (make items) = Unit {0}

-- each walks and looks up only tables that are filled before it, for that
abbrev pub AreOrdered : (before : List Pipeline) → List Pipeline → Type 0
AreOrdered before [] = Unit {0}
AreOrdered before (p ∷ ps) = Takes before p.source × (AllByRecursion (LooksUp before) p.steps × AreOrdered (before ++ p ∷ []) ps)

abbrev pub IsTable : Target → Type 0
IsTable (to_lookup lookup) = Unit {0}
IsTable (to_walk s) = Unit {0}
IsTable to_result = ⊥

-- all but the last fill a table, and the last makes the result
abbrev pub EndsInResult : List Pipeline → Type 0
EndsInResult [] = ⊥
EndsInResult (p ∷ []) = p.target ≡ to_result
EndsInResult (p ∷ next ∷ ps) = IsTable p.target × EndsInResult (next ∷ ps)

-- ---- what they come to, over the tables of the schema and those that were filled

abbrev pub source_flow : (tables built : List (List (List Val))) → Source → Flow (List Val)
source_flow tables built (scan entry table) = entry_flow tables entry table
source_flow tables built (walk s table) = stage_flow s (record { rows = get_or built table []; codes = [] })

abbrev pub pipeline_flow : (tables built : List (List (List Val))) → Pipeline → Flow (List Val)
pipeline_flow tables built p = steps_flow built p.steps (source_flow tables built p.source)

-- ---- one after another, until an exception is raised

-- the rows of each table that was filled, and the exceptions of the pipeline that raised some
pub record Progress : Type 0 where
  pub built : List (List (List Val))
  pub codes : List Code

-- Once a pipeline has raised, no other runs.
abbrev pub with_table : (codes : List Code) → (built : List (List (List Val))) → Flow (List Val) → Progress
with_table [] built f = record { built = built ++ f.rows ∷ []; codes = f.codes }
with_table (code ∷ codes) built f = record { built = built; codes = code ∷ codes }

abbrev pub after : (tables : List (List (List Val))) → Progress → List Pipeline → Progress
after tables done [] = done
after tables done (p ∷ ps) = after tables (with_table done.codes done.built (pipeline_flow tables done.built p)) ps

abbrev pub start : Progress
start = record { built = []; codes = [] }

-- what the last makes, or the exceptions of one before it
abbrev pub ended_by : List Code → Flow (List Val) → Flow (List Val)
ended_by [] f = f
ended_by (code ∷ codes) f = record { rows = []; codes = code ∷ codes }

abbrev pub run_of : (tables : List (List (List Val))) → Plan → Flow (List Val)
run_of tables p =
    let done = after tables start (split 0 p).builds in
    ended_by done.codes (pipeline_flow tables done.built (split 0 p).last)

-- A run comes to a flow: neither raises and they have the same rows in their order, or the run raises exceptions, of which each is one of the flow's.
-- One of them is reported, and which isn't told (22.1).
abbrev pub AreAmong : List Code → List Code → Type 0
AreAmong codes others = (code : Code) → Contains codes code → Contains others code

abbrev pub ComesTo : (run flow : Flow (List Val)) → Type 0
ComesTo run flow = ((run.codes ≡ []) × ((flow.codes ≡ []) × (run.rows ≡ flow.rows))) ⊎ ((1 ≤ length run.codes) × AreAmong run.codes flow.codes)
