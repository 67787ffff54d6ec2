use Rattle.std.proofs.Common.{◌≡◌, ◌≤◌, ◌<◌, ℕ, Some, true, length, slice_get}
use Rattle.std.specs.List.{list_any}
use Rattle.qw_read.specs.declared.reader.Reader.{Reader}
use Rattle.qw_operator.specs.Needed.{names}
use Rattle.qw_operator.proofs.needed.needed_for.Given as goal

abbrev pub invariant-loop-index : goal.invariant-loop-index
invariant-loop-index l = record {
  ahead : l.done ≤ l.needed;
  within : l.needed ≤ length l.readers;
  below : (k : ℕ) (r : Reader) → slice_get l.readers k ≡ Some r → k < l.index → list_any (names r.column) l.leaves ≡ true → k < l.needed;
}
