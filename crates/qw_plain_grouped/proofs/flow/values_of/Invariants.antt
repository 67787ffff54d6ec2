use Rattle.std.proofs.Common.{◌≡◌, ◌++◌, Ok, drop, map}
use Rattle.qw_types.specs.Arithmetic.{◌>>=◌}
use Rattle.qw_scalar.specs.Evaluation.{at_row}
use Rattle.qw_scalar.specs.Tree.{expression_of}
use Rattle.qw_meaning.specs.Flow.{values_of}
use Rattle.qw_plain_grouped.proofs.flow.values_of.Given as goal

-- the values so far, and then those of what is left
abbrev pub invariant-loop-item : goal.invariant-loop-item
invariant-loop-item l =
    values_of (map expression_of l.items) (at_row l.row)
    ≡ (values_of (map expression_of (drop l.item-index l.items)) (at_row l.row) >>= (λ rest. Ok (l.values.items ++ rest)))
