-- A query as a query specification and the stages behind it (ISO/IEC 9075:1992, 7.7 "group by clause", 7.8 "having clause", 7.9 "query
-- specification"). A stage is a function from flows of rows to flows of rows, whatever made them. Where set operations are added (7.10 "query
-- expression"), a query is a select or an operation of two queries; the stage that gives each row as often as the operation says, by how often
-- either side has it, then stands here, behind `group`.
use Rattle.std.specs.Prelude.{ℕ, Bool, true, false, List, [], ◌∷◌, length}
use Rattle.qw_types.specs.declared.value.Val.{Val}
use Rattle.qw_scalar.specs.Expression.{Condition, Expression}
use Rattle.qw_meaning.specs.Flow.{Flow, each, kept, selected}
use Rattle.qw_meaning.specs.Outcome.{Outcome, ended, flow}
use Rattle.qw_meaning.specs.Select.{Specification}
use Rattle.qw_grouped.specs.declared.set_function.SetFunctionKind.{SetFunctionKind}
use Rattle.qw_grouped.specs.Grouped.{front, kinds_of}
use Rattle.qw_grouped.specs.Groups.{grouped_table, once}
use Rattle.qw_grouped.specs.Whole.{Body, Whole, grouped, plain}

pub data Stage : Type 0 where
  -- Of rows with the values of so many grouped columns, and behind them those of the arguments of set functions, those of the grouped table (7.7).
  group : (columns : ℕ) → List SetFunctionKind → Stage
  -- the rows that pass HAVING (7.8), and of each a row of a select list
  show : (having : List Condition) → (items : List Expression) → Stage
  -- each row once (7.9)
  distinct : Stage

abbrev pub stage_flow : Stage → Flow (List Val) → Flow (List Val)
stage_flow (group columns functions) f = grouped_table columns functions f
stage_flow (show having items) f = each (selected items) (each (kept having) f)
stage_flow distinct f = record { rows = once f.rows; codes = f.codes }

-- one stage after another
abbrev pub stages_flow : List Stage → Flow (List Val) → Flow (List Val)
stages_flow [] f = f
stages_flow (s ∷ stages) f = stages_flow stages (stage_flow s f)

-- ---- a query

-- the rows that FROM, WHERE and a list make, and what is done with all of them
pub record Select : Type 0 where
  pub rows : Specification
  pub stages : List Stage

abbrev pub select_flow : Select → (tables : List (List (List Val))) → Flow (List Val)
select_flow query tables = stages_flow query.stages (flow query.rows tables)

abbrev pub select_outcome : Select → (tables : List (List (List Val))) → Outcome
select_outcome query tables = ended (select_flow query tables).rows (select_flow query tables).codes

-- ---- of a query, grouped or not, with DISTINCT or without

abbrev pub distinct_stages : (is_distinct : Bool) → List Stage
distinct_stages true = distinct ∷ []
distinct_stages false = []

-- with these stages behind it
abbrev pub select_of_body : Body → (behind : List Stage) → Select
select_of_body (plain specification) behind = record { rows = specification; stages = behind }
select_of_body (grouped query) behind = record {
  rows = front query;
  stages = group (length query.columns) (kinds_of query.functions) ∷ show query.having query.items ∷ behind;
}

abbrev pub select_of : Whole → Select
select_of query = select_of_body query.body (distinct_stages query.distinct)
