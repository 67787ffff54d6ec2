-- The rows that bounds are told of are those of the query, where nothing was raised before GROUP BY.
use Rattle.std.proofs.Common.{◌≡◌, ◌∙◌, List, [], refl, sym, ap}
use Rattle.qw_types.specs.declared.code.Code.{Code}
use Rattle.qw_types.specs.declared.value.Val.{Val}
use Rattle.qw_meaning.specs.Flow.{Flow}
use Rattle.qw_meaning.specs.Outcome.{flow}
use Rattle.qw_meaning.specs.Select.{AreOfEntries, IsSpecification, Specification, entries_of}
use Rattle.qw_grouped.specs.Grouped.{front}
use Rattle.qw_grouped.specs.Groups.{behind_front}
use Rattle.qw_grouped.specs.Whole.{Body, IsBody, body_flow, grouped, plain, sources_in}
use Rattle.qw_algebra.specs.Written.{written}
use Rattle.qw_rewrite.specs.Placed.{IsSizedPlan}
use Rattle.qw_rewrite.proofs.Grounds.{flow_of_query}
use Rattle.qw_compile.specs.PlannedQueries.{placed}
use Rattle.qw_whole.specs.GroupTables.{unraised}
use Rattle.qw_whole.specs.WholePromises.{body_rows, planned_in, planned_rows}

-- a flow without exceptions
all_unraised : (f : Flow (List Val)) → f.codes ≡ [] → unraised f.rows ≡ f
all_unraised f none = ap (λ (codes : List Code). record { rows = f.rows; codes = codes }) (sym none)

planned : (specification : Specification) (tables : List (List (List Val))) → IsSpecification specification → AreOfEntries (entries_of specification.sources) tables
    → IsSizedPlan (written specification) → planned_rows specification tables ≡ (flow specification tables).rows
planned specification tables whole of sized = ap (λ (f : Flow (List Val)). f.rows) (flow_of_query specification tables (placed specification) whole of sized refl)

pub rows_told : (body : Body) (tables : List (List (List Val))) → IsBody body → AreOfEntries (entries_of (sources_in body)) tables → IsSizedPlan (written (planned_in body))
    → (flow (planned_in body) tables).codes ≡ [] → body_rows body tables ≡ (body_flow body tables).rows
rows_told (plain specification) tables whole of sized none = planned specification tables whole of sized
rows_told (grouped query) tables whole of sized none =
    ap (λ (rows : List (List Val)). (behind_front query (unraised rows)).rows) (planned (front query) tables whole.front of sized)
    ∙ ap (λ (f : Flow (List Val)). (behind_front query f).rows) (all_unraised (flow (front query) tables) none)
