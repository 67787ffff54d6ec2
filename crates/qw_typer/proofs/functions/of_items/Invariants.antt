use Rattle.std.proofs.Common.{◌≡◌, ◌++◌, length}
use Rattle.qw_typer.specs.Inner.Functions.{all_written}
use Rattle.qw_typer.proofs.GroupingLemmas.{written_items}
use Rattle.qw_typer.proofs.functions.of_items.Given as goal

abbrev pub invariant-loop-rest : goal.invariant-loop-rest
invariant-loop-rest l = all_written l.found.items ++ written_items l.rest ≡ all_written l.initial.found.items ++ written_items l.fn.items

abbrev pub decreases-loop-rest : goal.decreases-loop-rest
decreases-loop-rest l = length l.rest
