use Rattle.std.proofs.Common.{◌≡◌, map, take}
use Rattle.qw_group_pipeline.specs.declared.columns.ValueColumn.{ValueColumn}
use Rattle.qw_compile_whole.proofs.gathering.functions_of.Given as goal

abbrev pub invariant-loop-column : goal.invariant-loop-column
invariant-loop-column l = l.made.items ≡ map (λ (v : ValueColumn). v.function) (take l.column-index l.columns)
