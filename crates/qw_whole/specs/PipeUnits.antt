-- The units of the pipelines of a whole query's plan, each over the tables that those before it fill. A table of groups or of distinct rows counts where
-- it is walked, one of a join where it is looked up. A row, a pair or a group that raises an exception goes no further, and all others count.
use Rattle.std.specs.Prelude.{ℕ, ◌+◌, List, [], ◌∷◌, ◌++◌, length, get_or}
use Rattle.qw_types.specs.Contents.{rows_of}
use Rattle.qw_types.specs.declared.code.Code.{Code}
use Rattle.qw_types.specs.declared.value.Val.{Val}
use Rattle.qw_pipe.specs.Units.{Hashing, steps_units}
use Rattle.qw_plan.specs.Pipes.{Pipeline, Source, pipeline_flow, scan, source_flow, walk}
use Rattle.qw_whole.specs.PlanBounds.{stage_units}

abbrev pub source_units : Hashing → (tables built : List (List (List Val))) → Source → ℕ
source_units h tables built (scan entry table) = length (rows_of tables table)
source_units h tables built (walk s table) = stage_units h s (get_or built table [])

abbrev pub pipeline_units : Hashing → (tables built : List (List (List Val))) → Pipeline → ℕ
pipeline_units h tables built p = source_units h tables built p.source + steps_units h built p.steps (source_flow tables built p.source)

-- with the table that one more fills, and all of these
abbrev pub and_filled : (tables built : List (List (List Val))) → Pipeline → List (List (List Val))
and_filled tables built p = built ++ (pipeline_flow tables built p).rows ∷ []

abbrev pub all_filled : (tables built : List (List (List Val))) → List Pipeline → List (List (List Val))
all_filled tables built [] = built
all_filled tables built (p ∷ ps) = all_filled tables (and_filled tables built p) ps

-- of all, whatever they raise
abbrev pub pipelines_units : Hashing → (tables built : List (List (List Val))) → List Pipeline → ℕ
pipelines_units h tables built [] = 0
pipelines_units h tables built (p ∷ ps) = pipeline_units h tables built p + pipelines_units h tables (and_filled tables built p) ps

-- of those that run: none behind one that raises
abbrev pub units_unless : List Code → ℕ → ℕ
units_unless [] units = units
units_unless (code ∷ codes) units = 0

abbrev pub run_units : Hashing → (tables built : List (List (List Val))) → List Pipeline → ℕ
run_units h tables built [] = 0
run_units h tables built (p ∷ ps) = pipeline_units h tables built p + units_unless (pipeline_flow tables built p).codes (run_units h tables (and_filled tables built p) ps)
