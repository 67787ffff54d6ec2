use Rattle.std.proofs.Common.{◌≡◌, ◌<◌, ◌*◌, ◌^◌, unsigned_abs, take}
use Rattle.qw_grouped.specs.SetFunctions.{total}
use Rattle.qw_plain_grouped.proofs.reckon.total.Given as goal

abbrev pub invariant-loop-value : goal.invariant-loop-value
invariant-loop-value l = record {
  sum : l.sum ≡ total (take l.value-index l.values);
  small : unsigned_abs l.sum < 2 * 10 ^ 33;
}
