use Rattle.std.proofs.Common.{sym, ap, ◌∙◌}
use Rattle.qw_machine.specs.Instance.{Called}
use Rattle.qw_machine.proofs.Instances.{running-point, went-from, goes-on, not-over, over-not-running}
use Rattle.qw_machine.proofs.machine.Instance.step.Goals as goal

pub returns-then-is_some-clause-step : goal.returns-then-is_some-clause-step
returns-then-is_some-clause-step c =
    λ config same. absurd (over-not-running c.self.inside (sym c.is_some.ensures ∙ c.if-is_some.true) config (ap (λ (x : Called). x.state) c.self.view_is ∙ same))

pub step-stepped-requires-clause-executed : goal.step-stepped-requires-clause-executed
step-stepped-requires-clause-executed c = rw c.module.ensures.«module» c.self.invariant.executed

pub step-stepped-requires-clause-imported : goal.step-stepped-requires-clause-imported
step-stepped-requires-clause-imported c = rw c.module.ensures.«module» c.self.invariant.imported

pub step-stepped-requires-clause-point : goal.step-stepped-requires-clause-point
step-stepped-requires-clause-point c =
    let runs = sym c.is_some.ensures ∙ c.if-is_some.false in
    rw c.module.ensures.«module» (running-point c.self.inside runs c.self.invariant).point

pub step-stepped-requires-clause-unfinished : goal.step-stepped-requires-clause-unfinished
step-stepped-requires-clause-unfinished c =
    let runs = sym c.is_some.ensures ∙ c.if-is_some.false in
    rw c.module.ensures.«module» (running-point c.self.inside runs c.self.invariant).unfinished

pub invariant_of-self : goal.invariant_of-self
invariant_of-self c =
    let runs = sym c.is_some.ensures ∙ c.if-is_some.false in
    goes-on c.self.inside runs c.self.invariant c.args.spare c.args.memory.now.octets c.step-stepped.new.memory.octets c.step-stepped.result c.end-self-inside.result c.asked-self-inside.result
    c.end-self-inside.ensures c.asked-self-inside.ensures c.step-stepped.new.self (rw c.module.ensures.«module» at c.step-stepped.ensures.stepped) c.step-stepped.ensures.rooms

pub returns-clause-step : goal.returns-clause-step
returns-clause-step c = λ config same.
    let runs = sym c.is_some.ensures ∙ c.if-is_some.false in
    went-from c.self.inside runs c.self.invariant c.args.spare c.args.memory.now.octets c.step-stepped.new.memory.octets c.step-stepped.result c.end-self-inside.result c.asked-self-inside.result
    c.end-self-inside.ensures c.asked-self-inside.ensures c.step-stepped.new.self (rw c.module.ensures.«module» at c.step-stepped.ensures.stepped) config (ap (λ (x : Called). x.state) c.self.view_is ∙ same)

pub returns-clause-over : goal.returns-clause-over
returns-clause-over c =
    λ over. absurd (not-over c.self.inside (sym c.is_some.ensures ∙ c.if-is_some.false) c.self.invariant (rw (← c.self.view_is) at over))
