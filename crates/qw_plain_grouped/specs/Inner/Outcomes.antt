-- What the functions of `outcome` come to: a query without its DISTINCT, what is behind GROUP BY, and each row once.
use Rattle.std.specs.Prelude.{List}
use Rattle.qw_types.specs.declared.value.Val.{Val}
use Rattle.qw_meaning.specs.Flow.{Flow}
use Rattle.qw_meaning.specs.Outcome.{Outcome, Raises, Rows, ended}
use Rattle.qw_grouped.specs.Grouped.{Grouped}
use Rattle.qw_grouped.specs.Groups.{behind_front, once}
use Rattle.qw_grouped.specs.Whole.{Body, body_flow}

abbrev pub body_outcome : Body → List (List (List Val)) → Outcome
body_outcome body tables = ended (body_flow body tables).rows (body_flow body tables).codes

abbrev pub outcome_behind : Grouped → Flow (List Val) → Outcome
outcome_behind query before = ended (behind_front query before).rows (behind_front query before).codes

abbrev pub once_in : Outcome → Outcome
once_in (Rows rows) = Rows (once rows)
once_in (Raises codes) = Raises codes
