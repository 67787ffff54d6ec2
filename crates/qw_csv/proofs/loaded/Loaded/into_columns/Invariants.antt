use Rattle.std.proofs.Common.{◌≡◌, length, take}
use Rattle.qw_csv.specs.LoadedColumn.{columns_of}
use Rattle.qw_csv.proofs.loaded.Loaded.into_columns.Given as goal

abbrev pub invariant-loop-kept : goal.invariant-loop-kept
invariant-loop-kept l =
    (goal.iterator-loop-kept).can_next l.kept-iterator ×
    (goal.iterator-loop-kept).is_finite l.kept-iterator ×
    (l.columns.items ≡ take (length l.yielded) (columns_of l.fn.self))
