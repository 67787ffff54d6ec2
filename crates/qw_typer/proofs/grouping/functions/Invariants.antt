use Rattle.std.proofs.Common.{◌≡◌, length}
use Rattle.qw_typer.specs.Inner.Functions.{all_written}
use Rattle.qw_typer.specs.Inner.Grouping.{arguments_nodes, arguments_octets, typed_functions}
use Rattle.qw_typer.specs.Inner.Typing.{as_entries}
use Rattle.qw_typer.proofs.GroupingLemmas.{AfterFunctions, ArgumentsWith}
use Rattle.qw_typer.proofs.grouping.functions.Given as goal

abbrev pub invariant-loop-rest : goal.invariant-loop-rest
invariant-loop-rest l = record {
  meant : typed_functions (as_entries l.fn.entries) (all_written l.fn.written) ≡ AfterFunctions (as_entries l.fn.entries) l.made.functions.items l.made.columns.items (all_written l.rest);
  fits : ArgumentsWith l.made.functions.items (arguments_nodes (all_written l.rest)) (arguments_octets (all_written l.rest)) (arguments_nodes (all_written l.fn.written)) (arguments_octets (all_written l.fn.written));
}

abbrev pub decreases-loop-rest : goal.decreases-loop-rest
decreases-loop-rest l = length l.rest
