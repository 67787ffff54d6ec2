use Rattle.std.proofs.Common.{take}
use Rattle.qw_expr.specs.Bindings.{known_of}
use Rattle.qw_group_pipeline.specs.Inner.Valued.{ReadsValued}
use Rattle.qw_group_pipeline.proofs.value.read_values.Given as goal

abbrev pub invariant-loop-index : goal.invariant-loop-index
invariant-loop-index l = ReadsValued l.offset l.entry (take l.index l.columns) l.initial.emitter l.emitter (known_of l.known.items)
