use Rattle.std.proofs.Common.{◌≡◌}
use Rattle.qw_bench.specs.Inner.Rounds.{steps_left}
use Rattle.qw_bench.proofs.Rounds.{HasRounded}
use Rattle.qw_bench.proofs.bench.Bench.run_all.Given as goal

abbrev pub invariant-loop-self : goal.invariant-loop-self
invariant-loop-self l = record {
  rounded : HasRounded l.quantum l.fn.self.shared l.self.shared;
  tasks : l.self.tasks ≡ l.fn.self.tasks;
  reserved : l.self.reserved ≡ l.fn.self.reserved;
}

-- each round brings an instance nearer to its limit
abbrev pub decreases-loop-self : goal.decreases-loop-self
decreases-loop-self l = steps_left l.self.shared.instances
