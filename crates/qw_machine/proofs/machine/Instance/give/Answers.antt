use Rattle.std.proofs.Common.{ap, ◌∙◌, arith}
use Rattle.qw_machine.specs.Instance.{Called}
use Rattle.qw_machine.proofs.Instances.{owed-asks, given-state, given-goes}
use Rattle.qw_machine.proofs.machine.Instance.give.Goals as goal

pub returns-clause-asks : goal.returns-clause-asks
returns-clause-asks c =
    rw (← c.self.view_is) (owed-asks c.self.inside c.self.invariant (c.requires.owed.0, ap (λ (x : Called). x.asked) c.self.view_is ∙ c.requires.owed.1))

pub returns-clause-given : goal.returns-clause-given
returns-clause-given c = λ config pages make state wanted.
    rw c.after_leaving-self-inside.ensures (given-state c.self.inside c.self.invariant
    (c.requires.owed.0, ap (λ (x : Called). x.asked) c.self.view_is ∙ c.requires.owed.1) c.unwrap_or.result (omega arith) c.answer-goes.new.self c.answer-goes.result
    c.answer-goes.ensures.rooms (rw c.module.ensures.«module» at c.answer-goes.ensures.left) config pages make
    (ap (λ (x : Called). x.state) c.self.view_is ∙ state) wanted ∙ ap make c.unwrap_or.ensures)

pub returns-clause-goes : goal.returns-clause-goes
returns-clause-goes c =
    rw c.after_leaving-self-inside.ensures (given-goes c.self.inside c.self.invariant
    (c.requires.owed.0, ap (λ (x : Called). x.asked) c.self.view_is ∙ c.requires.owed.1) c.unwrap_or.result (omega arith) c.answer-goes.new.self c.answer-goes.result
    c.answer-goes.ensures.rooms (rw c.module.ensures.«module» at c.answer-goes.ensures.left))
