-- The flow that a `flow::Flow` of the code is.
use Rattle.std.specs.Prelude.{List}
use Rattle.qw_types.specs.declared.value.Val.{Val}
use Rattle.qw_meaning.specs.Flow.{Flow}
use Rattle.qw_plain_grouped.specs.declared.flow.Flow as coded

abbrev pub flow_of : coded.Flow → Flow (List Val)
flow_of flow = record { rows = flow.rows.items; codes = flow.codes.items }
