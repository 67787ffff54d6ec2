use Rattle.std.proofs.Common.{◌≡◌, pos, ◌≤ℤ◌, map, length}
use Rattle.qw_ast.specs.SyntaxTree.{days_of}
use Rattle.qw_typer.specs.Inner.Literals.{day_of_date}
use Rattle.qw_typer.specs.Literal.{after_intervals}
use Rattle.qw_typer.proofs.date.after_intervals.Given as goal

abbrev pub invariant-loop-rest : goal.invariant-loop-rest
invariant-loop-rest l = (pos 1 ≤ℤ l.day.year) × (after_intervals (map days_of l.rest) (day_of_date l.day) ≡ after_intervals (map days_of l.fn.intervals) (day_of_date l.fn.first))

abbrev pub decreases-loop-rest : goal.decreases-loop-rest
decreases-loop-rest l = length l.rest
