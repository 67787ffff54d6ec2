use Rattle.std.proofs.Common.{[], sym, ◌∙◌}
use Rattle.std.proofs.lemmas.List.{append-nil}
use Rattle.qw_bench.specs.Bench as rounds
use Rattle.qw_bench.proofs.Rounds.{all-ended, no-round, rounded-more, some-round}
use Rattle.qw_bench.proofs.bench.Bench.run_all.Goals as goal

pub loop-self-smaller : goal.loop-self-smaller
loop-self-smaller c = c.round.ensures.falls (some-round c.loop-self.self.shared c.args.quantum (sym c.runs.ensures ∙ c.loop-self-test.true))

pub loop-self-preserved : goal.loop-self-preserved
loop-self-preserved c = record {
  rounded = rounded-more c.args.quantum c.args.self.now.shared c.loop-self.self.shared c.round.new.self.shared c.loop-self.invariant.rounded c.round.ensures.turns;
  tasks = c.round.ensures.tasks ∙ c.loop-self.invariant.tasks;
  reserved = c.round.ensures.reserved ∙ c.loop-self.invariant.reserved;
}

pub returns-clause-rounds : goal.returns-clause-rounds
returns-clause-rounds c =
    let so_far = c.loop-self.invariant.rounded in
    let last = rounds.none c.loop-self.self.shared (no-round c.loop-self.self.shared c.args.quantum (sym c.runs.ensures ∙ c.loop-self-test.false)) in
    (so_far.before, rw append-nil at (so_far.goes_on [] last), so_far.state)

pub returns-clause-ended : goal.returns-clause-ended
returns-clause-ended c = all-ended c.loop-self.self.shared (sym c.runs.ensures ∙ c.loop-self-test.false)
