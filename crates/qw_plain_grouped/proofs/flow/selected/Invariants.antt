use Rattle.std.proofs.Common.{◌≡◌, ◌++◌, map}
use Rattle.std.specs.List.{AllByRecursion, flat_map}
use Rattle.qw_scalar.specs.Tree.{expression_of}
use Rattle.qw_meaning.specs.Flow.{codes_given, rows_given, selected}
use Rattle.qw_plain_grouped.specs.Inner.Evaluable.{AreEvaluable}
use Rattle.qw_plain_grouped.proofs.flow.selected.Given as goal

abbrev pub invariant-loop-row : goal.invariant-loop-row
invariant-loop-row l = record {
  evaluable : AllByRecursion (AreEvaluable (map expression_of l.items)) l.row-iterator.rest.items;
  rows : l.found.rows.items ≡ flat_map (λ row. rows_given (selected (map expression_of l.items) row)) l.yielded;
  codes : l.found.codes.items ≡ l.fn.flow.codes.items ++ flat_map (λ row. codes_given (selected (map expression_of l.items) row)) l.yielded;
}
