use Rattle.std.proofs.Common.{◌≡◌, ◌∙◌, sym, ap, ℕ, ◌∷◌, false}
use Rattle.qw_machine.specs.Inner.Operated.{Held}
use Rattle.qw_machine.proofs.Crossing.{placed-room, placed-ready, placed-operator, placed-block, placed-loop, placed-condition, placed-on, placed-operand, placed-if, placed-else, placed-without}
use Rattle.qw_machine.proofs.blocks.move_on.Goals as goal
use Rattle.qw_machine.proofs.blocks.move_on.Goals.{then-pop-ne0, else-pop-ne0}

pub operate-done-requires-clause-ready : goal.operate-done-requires-clause-ready
operate-done-requires-clause-ready c =
    let at = c.requires.point in
    placed-ready at.4 c.args.sequence.now at.3 c.args.spare _ c.in-Op.op c.in-Op.is

pub operate-done-requires-clause-room : goal.operate-done-requires-clause-room
operate-done-requires-clause-room c =
    let at = c.requires.point in
    placed-room at.4

pub pop-requires : goal.pop-requires
pop-requires c =
    let at = c.requires.point in
    placed-operand at.4 c.args.sequence.now at.3 c.args.spare _ c.in-If.result c.in-If.then_body c.in-If.else_body c.in-If.is

pub returns-in-Op-clause-done : goal.returns-in-Op-clause-done
returns-in-Op-clause-done c = λ m rooms p same start.
    let done = c.operate-done.new in
    let after : Held = record { operands = done.operands.values; globals = done.globals; locals = done.locals; memory = done.memory.octets } in
    rw c.operated.ensures (placed-operator start c.args.sequence.now same c.args.spare _ c.in-Op.op c.in-Op.is c.args.memory.now.octets c.operate-done.result after
    c.operate-done.ensures.done done.operands.room)

pub returns-in-Block-clause-done : goal.returns-in-Block-clause-done
returns-in-Block-clause-done c = λ m rooms p same start.
    placed-block start c.args.sequence.now same c.args.spare _ c.len.result c.is_some.result c.enter_label.new.awaiting c.enter_label.result c.args.memory.now.octets
    c.in-Block.result c.in-Block.body c.in-Block.is c.len.ensures c.is_some.ensures record { labelled_is = c.enter_label.ensures.pushed; begins = c.enter_label.ensures.begins }

pub returns-in-Loop-clause-done : goal.returns-in-Loop-clause-done
returns-in-Loop-clause-done c = λ m rooms p same start.
    placed-loop start c.args.sequence.now same c.args.spare _ c.len-in-Loop.result false c.enter_label-in-Loop.new.awaiting c.enter_label-in-Loop.result c.args.memory.now.octets
    _ c.in-Loop.body c.in-Loop.is c.len-in-Loop.ensures record { labelled_is = c.enter_label-in-Loop.ensures.pushed; begins = c.enter_label-in-Loop.ensures.begins }

pub returns-in-Some-clause-done : goal.returns-in-Some-clause-done
returns-in-Some-clause-done c = λ m rooms p same start.
    elim c.if-pop-ne0.branch [
      | then-pop-ne0 w ↦
          placed-if start c.args.sequence.now same c.args.spare _ c.in-If.result c.in-If.then_body c.in-If.else_body c.in-If.is
          c.in-Some.body c.len-in-If.result c.is_some-in-If.result c.enter_label-in-If.new.awaiting c.enter_label-in-If.result c.pop.new.self c.args.memory.now.octets
          c.len-in-If.ensures c.is_some-in-If.ensures record { labelled_is = c.enter_label-in-If.ensures.pushed; begins = c.enter_label-in-If.ensures.begins }
          c.pop.result c.pop.ensures.popped w.if-pop-ne0.true (cc (w.body-is, c.in-Some.is))
      | else-pop-ne0 w ↦
          placed-else start c.args.sequence.now same c.args.spare _ c.in-If.result c.in-If.then_body c.in-If.else_body c.in-If.is
          c.in-Some.body c.len-in-If.result c.is_some-in-If.result c.enter_label-in-If.new.awaiting c.enter_label-in-If.result c.pop.new.self c.args.memory.now.octets
          c.len-in-If.ensures c.is_some-in-If.ensures record { labelled_is = c.enter_label-in-If.ensures.pushed; begins = c.enter_label-in-If.ensures.begins }
          (c.pop.ensures.popped ∙ ap (λ (n : ℕ). n ∷ c.pop.new.self.values) w.if-pop-ne0.false) (sym w.body-is ∙ c.in-Some.is)
    ]

pub returns-in_default-body-clause-done : goal.returns-in_default-body-clause-done
returns-in_default-body-clause-done c = λ m rooms p same start.
    elim c.if-pop-ne0.branch [
      | then-pop-ne0 w ↦ absurd (c.in_default-body.not-Some _ w.body-is)
      | else-pop-ne0 w ↦
          placed-without start c.args.sequence.now same c.args.spare _ c.in-If.result c.in-If.then_body c.in-If.else_body c.in-If.is
          c.pop.new.self c.args.memory.now.octets (c.pop.ensures.popped ∙ ap (λ (n : ℕ). n ∷ c.pop.new.self.values) w.if-pop-ne0.false)
          (sym w.body-is ∙ c.in_default-body.is)
    ]

pub top-requires : goal.top-requires
top-requires c =
    let at = c.requires.point in
    placed-condition at.4 c.args.sequence.now at.3 c.args.spare _ c.in-BrIf.field-0 c.in-BrIf.is

pub returns-else-top-ne0-clause-done : goal.returns-else-top-ne0-clause-done
returns-else-top-ne0-clause-done c = λ m rooms p same start.
    let zero : c.pop-in-BrIf.result ≡ 0 = cc (c.top.ensures, c.pop-in-BrIf.ensures.popped, c.if-top-ne0.false) in
    placed-on start c.args.sequence.now same c.args.spare _ c.in-BrIf.field-0 c.in-BrIf.is
    c.pop-in-BrIf.new.self c.args.memory.now.octets (c.pop-in-BrIf.ensures.popped ∙ ap (λ (n : ℕ). n ∷ c.pop-in-BrIf.new.self.values) zero)
