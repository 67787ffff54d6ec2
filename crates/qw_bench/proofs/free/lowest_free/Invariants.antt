use Rattle.qw_bench.proofs.FreeLemmas.{IsSeeking}
use Rattle.qw_bench.proofs.free.lowest_free.Given as goal

abbrev pub invariant-loop-at : goal.invariant-loop-at
invariant-loop-at l = IsSeeking l.flags l.pages l.at l.count
