use Rattle.std.proofs.Common.{◌≡◌, ◌∷◌, not}
use Rattle.std.specs.List.{filter}
use Rattle.qw_types.specs.ValueOrder.{is_same_row}
use Rattle.qw_plain_grouped.proofs.distinct.with_first.Given as goal

abbrev pub invariant-loop-other : goal.invariant-loop-other
invariant-loop-other l = l.all.items ≡ l.row ∷ filter (λ other. not (is_same_row l.row other)) l.yielded
