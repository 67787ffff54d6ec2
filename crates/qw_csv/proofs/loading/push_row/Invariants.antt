use Rattle.std.proofs.Common.{List}
use Rattle.csv.specs.Records.{fields_of}
use Rattle.qw_csv.specs.Field.{lent}
use Rattle.qw_types.specs.declared.value.Val.{Val}
use Rattle.qw_csv.proofs.PushLemmas.{Pushed}
use Rattle.qw_csv.proofs.loading.push_row.Given as goal

abbrev pub invariant-loop-index : goal.invariant-loop-index
invariant-loop-index l = (more : List Val) × Pushed (lent l.null) l.index l.len l.columns (fields_of l.row) l.fn.values.items l.values.items more
