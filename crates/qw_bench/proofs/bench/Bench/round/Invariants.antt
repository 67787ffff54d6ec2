use Rattle.std.proofs.Common.{◌≡◌}
use Rattle.qw_bench.proofs.Rounds.{IsRounding}
use Rattle.qw_bench.proofs.bench.Bench.round.Given as goal

abbrev pub invariant-loop-i : goal.invariant-loop-i
invariant-loop-i l = record {
  turned : IsRounding l.quantum l.fn.self.shared l.i l.self.shared;
  tasks : l.self.tasks ≡ l.fn.self.tasks;
  reserved : l.self.reserved ≡ l.fn.self.reserved;
}
