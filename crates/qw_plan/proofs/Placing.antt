-- The well placed plan of a query comes to the query's flow.
use Rattle.std.proofs.Common.{◌≡◌, ◌∙◌, true, List, [], ◌∷◌, refl, ap, subst}
use Rattle.qw_types.specs.declared.value.Val.{Val}
use Rattle.qw_meaning.specs.Flow.{Flow}
use Rattle.qw_meaning.specs.Select.{AreOfEntries, IsSpecification, entries_of}
use Rattle.qw_grouped.specs.Whole.{Whole, whole_flow}
use Rattle.qw_algebra.specs.Written as specification
use Rattle.qw_rewrite.specs.Placed.{IsSizedPlan}
use Rattle.qw_rewrite.specs.Probe.{keyed}
use Rattle.qw_rewrite.specs.Sift.{sifted}
use Rattle.qw_rewrite.proofs.Grounds.{flow_of_query}
use Rattle.qw_plan.specs.Stages.{Select, Stage, select_flow, select_of}
use Rattle.qw_plan.specs.Plan.{Plan, plan_flow, planned_over, rows, stage, with_stages, written}
use Rattle.qw_plan.specs.Placed.{placed_plan}
use Rattle.qw_plan.specs.Pipes.{ComesTo, run_of}
use Rattle.qw_plan.proofs.Runs.{run_comes}
use Rattle.qw_plan.proofs.Stages.{over_rows, same_flow}

stages_placed : (stages : List Stage) (p : Plan) → placed_plan (with_stages stages p) ≡ with_stages stages (placed_plan p)
stages_placed [] p = refl
stages_placed (s ∷ stages) p = stages_placed stages (stage s p)

pub placed_over : (query : Select) → placed_plan (written query) ≡ planned_over (keyed true (sifted true [] (specification.written query.rows))) query
placed_over query = stages_placed query.stages (rows (specification.written query.rows))

pub placed_flow : (query : Select) (tables : List (List (List Val))) → IsSpecification query.rows → AreOfEntries (entries_of query.rows.sources) tables → IsSizedPlan (specification.written query.rows)
    → plan_flow tables (placed_plan (written query)) ≡ select_flow query tables
placed_flow query tables whole of sized =
    let node = keyed true (sifted true [] (specification.written query.rows)) in
    ap (plan_flow tables) (placed_over query) ∙ over_rows query tables node (flow_of_query query.rows tables node whole of sized refl)

pub run_of_query : (query : Whole) (tables : List (List (List Val))) → IsSpecification (select_of query).rows → AreOfEntries (entries_of (select_of query).rows.sources) tables
    → IsSizedPlan (specification.written (select_of query).rows) → ComesTo (run_of tables (placed_plan (written (select_of query)))) (whole_flow query tables)
run_of_query query tables whole of sized =
    subst (λ (f : Flow (List Val)). ComesTo (run_of tables (placed_plan (written (select_of query)))) f) (placed_flow (select_of query) tables whole of sized ∙ same_flow query tables)
    (run_comes tables (placed_plan (written (select_of query))))
