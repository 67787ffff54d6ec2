use Rattle.std.proofs.Common.{sym, ap, ◌∙◌}
use Rattle.qw_machine.specs.Instance.{Called}
use Rattle.qw_machine.proofs.Instances.{running-point, ran-from, runs-on, not-over, over-not-running}
use Rattle.qw_machine.proofs.machine.Instance.run.Goals as goal

pub run-run-requires-clause-executed : goal.run-run-requires-clause-executed
run-run-requires-clause-executed c = rw c.module.ensures.«module» c.self.invariant.executed

pub run-run-requires-clause-imported : goal.run-run-requires-clause-imported
run-run-requires-clause-imported c = rw c.module.ensures.«module» c.self.invariant.imported

pub run-run-requires-clause-point : goal.run-run-requires-clause-point
run-run-requires-clause-point c =
    let runs = sym c.is_some.ensures ∙ c.if-is_some.false in
    rw c.module.ensures.«module» (running-point c.self.inside runs c.self.invariant)

pub invariant_of-self : goal.invariant_of-self
invariant_of-self c =
    let runs = sym c.is_some.ensures ∙ c.if-is_some.false in
    runs-on c.self.inside runs c.self.invariant c.args.spare c.args.most c.args.memory.now.octets c.run-run.new.memory.octets c.run-run.result c.end-self-inside.result c.asked-self-inside.result
    c.end-self-inside.ensures c.asked-self-inside.ensures c.run-run.new.self (rw c.module.ensures.«module» at c.run-run.ensures.run) c.run-run.ensures.rooms

pub returns-then-is_some-clause-runs : goal.returns-then-is_some-clause-runs
returns-then-is_some-clause-runs c =
    λ config same. absurd (over-not-running c.self.inside (sym c.is_some.ensures ∙ c.if-is_some.true) config (ap (λ (x : Called). x.state) c.self.view_is ∙ same))

pub returns-then-is_some-clause-all : goal.returns-then-is_some-clause-all
returns-then-is_some-clause-all c =
    λ config same. absurd (over-not-running c.self.inside (sym c.is_some.ensures ∙ c.if-is_some.true) config (ap (λ (x : Called). x.state) c.self.view_is ∙ same))

pub returns-clause-runs : goal.returns-clause-runs
returns-clause-runs c = λ config same.
    let runs = sym c.is_some.ensures ∙ c.if-is_some.false in
    rw c.made.ensures (ran-from c.self.inside runs c.self.invariant c.args.spare c.args.most c.args.memory.now.octets c.run-run.new.memory.octets c.run-run.result c.end-self-inside.result c.asked-self-inside.result
    c.end-self-inside.ensures c.asked-self-inside.ensures c.run-run.new.self (rw c.module.ensures.«module» at c.run-run.ensures.run) config (ap (λ (x : Called). x.state) c.self.view_is ∙ same))

pub returns-clause-over : goal.returns-clause-over
returns-clause-over c =
    λ over. absurd (not-over c.self.inside (sym c.is_some.ensures ∙ c.if-is_some.false) c.self.invariant (rw (← c.self.view_is) at over))
