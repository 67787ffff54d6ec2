-- Plans of whole queries (ISO/IEC 9075:1992, 7.4 to 7.9): the plan of a query specification, and above it one stage after another. Set operations
-- (7.10) will be a case of two plans: one side's rows behind the other's, of UNION ALL, and the rows of both sides in one table, of the others. Each
-- function on plans then says of that case what it says of these two: its flow, its pipelines, how wide its rows are, what it takes.
use Rattle.std.specs.Prelude.{List, [], ◌∷◌}
use Rattle.qw_types.specs.declared.value.Val.{Val}
use Rattle.qw_meaning.specs.Flow.{Flow}
use Rattle.qw_algebra.specs.Node.{Node, node_flow}
use Rattle.qw_algebra.specs.Written as specification
use Rattle.qw_plan.specs.Stages.{Select, Stage, stage_flow}

pub data Plan : Type 0 where
  -- the rows of a query specification, by its plan
  rows : Node → Plan
  -- a stage of those of the plan below
  stage : Stage → Plan → Plan

abbrev pub plan_flow : (tables : List (List (List Val))) → Plan → Flow (List Val)
plan_flow tables (rows node) = node_flow tables node
plan_flow tables (stage s below) = stage_flow s (plan_flow tables below)

abbrev pub with_stages : List Stage → Plan → Plan
with_stages [] p = p
with_stages (s ∷ stages) p = with_stages stages (stage s p)

-- the plan of a query over a plan of its rows, and over the one that is as it is written
abbrev pub planned_over : Node → Select → Plan
planned_over node query = with_stages query.stages (rows node)

abbrev pub written : Select → Plan
written query = planned_over (specification.written query.rows) query
