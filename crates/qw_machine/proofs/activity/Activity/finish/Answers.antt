use Rattle.std.proofs.Common.{◌∙◌, refl, sym}
use Rattle.qw_machine.specs.Inner.Points.{point_of}
use Rattle.qw_machine.specs.Inner.Rooms.{rooms_of}
use Rattle.qw_machine.proofs.Steps.{not-halted, stepped-halted, stepped-left, stepped-returned}
use Rattle.qw_machine.proofs.activity.Activity.finish.Goals as goal

pub returns-then-halts-clause-stepped : goal.returns-then-halts-clause-stepped
returns-then-halts-clause-stepped c = λ spare p memory after executed.
    stepped-halted c.args.program.now (rooms_of c.args.self.now) spare p (point_of c.args.self.now) memory after c.args.done
    (sym c.halts.ensures ∙ c.if-halts.true) executed

pub returns-then-not-leave_finished-clause-stepped : goal.returns-then-not-leave_finished-clause-stepped
returns-then-not-leave_finished-clause-stepped c = λ spare p memory after executed.
    let goes = not-halted c.args.done (sym c.halts.ensures ∙ c.if-halts.false) in
    stepped-returned c.args.program.now (rooms_of c.args.self.now) spare p (point_of c.args.self.now) memory after c.args.done
    (rooms_of c.args.self.now) (point_of c.leave_finished.new.self) goes.0 goes.1 executed
    (rw c.if-not-leave_finished.true at c.leave_finished.ensures.left)

pub returns-clause-stepped : goal.returns-clause-stepped
returns-clause-stepped c = λ spare p memory after executed.
    let goes = not-halted c.args.done (sym c.halts.ensures ∙ c.if-halts.false) in
    stepped-left c.args.program.now (rooms_of c.args.self.now) spare p (point_of c.args.self.now) memory after c.args.done
    (rooms_of c.args.self.now) (point_of c.leave_finished.new.self) refl goes.0 goes.1 executed
    (rw c.if-not-leave_finished.false at c.leave_finished.ensures.left)
