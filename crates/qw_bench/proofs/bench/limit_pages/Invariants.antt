use Rattle.std.proofs.Common.{◌≡◌, ◌*◌, ◌≤◌, take}
use Rattle.qw_bench.specs.Standing.{limit_pages}
use Rattle.qw_bench.proofs.bench.limit_pages.Given as goal

abbrev pub invariant-loop-one : goal.invariant-loop-one
invariant-loop-one l = (l.pages ≡ limit_pages (take l.one-index l.limits)) × (l.pages ≤ 65535 * l.one-index)
