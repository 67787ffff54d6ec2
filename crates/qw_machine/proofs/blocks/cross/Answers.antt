use Rattle.qw_machine.specs.Inner.Points.{placed}
use Rattle.qw_machine.proofs.Crossing.{held}
use Rattle.qw_machine.proofs.Leaving.{done-left}
use Rattle.qw_machine.proofs.blocks.cross.Goals as goal

pub leave_labels-left-requires : goal.leave_labels-left-requires
leave_labels-left-requires c =
    let at = c.requires.point in
    let moved = c.in-Some.moved in
    let after = c.move_on.new in
    let done = rw c.in-Ran.is at c.in-Some.ensures.done at.0 at.1 at.2 at.4 at.5 in record {
      point = (at.0, at.1, held at.2 after.operands after.globals after.locals, at.3, done.0);
    }

pub returns-clause-done : goal.returns-clause-done
returns-clause-done c = λ m rooms p body same start.
    let moved = c.in-Some.moved in
    let after = c.move_on.new in
    let q = placed p after.awaiting moved.number moved.index after.operands after.globals after.locals in
    let r = placed p c.leave_labels-left.new.awaiting c.leave_labels-left.result.number c.leave_labels-left.result.index after.operands after.globals after.locals in
    let here = placed p c.args.awaiting.now c.args.number c.args.index c.args.operands.now c.args.globals.now c.args.locals.now in
    let done = rw c.in-Ran.is at c.in-Some.ensures.done m rooms p same start in
    let left = c.leave_labels-left.ensures.left m rooms (held p after.operands after.globals after.locals) body done.0 in
    done-left m rooms c.args.spare here q r c.args.memory.now.octets after.memory.octets done left.0 left.1
