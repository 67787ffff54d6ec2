-- What a query comes to as a query specification with stages behind it, and what its plan comes to.
use Rattle.std.proofs.Common.{◌≡◌, ◌∙◌, ◌≤◌, Bool, true, false, List, [], ◌∷◌, length, refl, ap}
use Rattle.qw_types.specs.declared.value.Val.{Val}
use Rattle.qw_meaning.specs.Flow.{Flow}
use Rattle.qw_meaning.specs.Outcome.{ended, flow}
use Rattle.qw_meaning.specs.Select.{Specification}
use Rattle.qw_grouped.specs.Whole.{Body, Whole, grouped, plain, whole_flow, whole_outcome}
use Rattle.qw_algebra.specs.Node.{Node, node_flow}
use Rattle.qw_algebra.specs.Written as specification
use Rattle.qw_plan.specs.Stages.{Select, Stage, select_flow, select_of, select_outcome, stages_flow}
use Rattle.qw_plan.specs.Plan.{Plan, plan_flow, planned_over, rows, stage, with_stages, written}

by_body : (body : Body) (is_distinct : Bool) (tables : List (List (List Val)))
    → select_flow (select_of (record { body = body; distinct = is_distinct })) tables ≡ whole_flow (record { body = body; distinct = is_distinct }) tables
by_body (plain specification) false tables = refl
by_body (plain specification) true tables = refl
by_body (grouped query) false tables = refl
by_body (grouped query) true tables = refl

pub same_flow : (query : Whole) (tables : List (List (List Val))) → select_flow (select_of query) tables ≡ whole_flow query tables
same_flow query tables = by_body query.body query.distinct tables

pub same_outcome : (query : Whole) (tables : List (List (List Val))) → select_outcome (select_of query) tables ≡ whole_outcome query tables
same_outcome query tables = ap (λ (f : Flow (List Val)). ended f.rows f.codes) (same_flow query tables)

stages_then : (tables : List (List (List Val))) (stages : List Stage) (p : Plan) → plan_flow tables (with_stages stages p) ≡ stages_flow stages (plan_flow tables p)
stages_then tables [] p = refl
stages_then tables (s ∷ stages) p = stages_then tables stages (stage s p)

-- a plan of a query's rows comes to them: so the query's stages over it come to the query's
pub over_rows : (query : Select) (tables : List (List (List Val))) (node : Node) → node_flow tables node ≡ flow query.rows tables → plan_flow tables (planned_over node query) ≡ select_flow query tables
over_rows query tables node same = stages_then tables query.stages (rows node) ∙ ap (stages_flow query.stages) same

pub same_plan : ((q : Specification) (tables : List (List (List Val))) → 1 ≤ length q.sources → node_flow tables (specification.written q) ≡ flow q tables)
    → (query : Select) (tables : List (List (List Val))) → 1 ≤ length query.rows.sources → plan_flow tables (written query) ≡ select_flow query tables
same_plan rows_of query tables some = over_rows query tables (specification.written query.rows) (rows_of query.rows tables some)
