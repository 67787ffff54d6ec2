use Rattle.std.proofs.Common.{◌≡◌, length, drop, ap, arith}
use Rattle.qw_machine.specs.Inner.Points.{point_of}
use Rattle.qw_machine.proofs.Around.{operand-room}
use Rattle.qw_machine.proofs.Calls.{told-point}
use Rattle.qw_machine.proofs.activity.Activity.answer.Goals as goal

pub pop-requires : goal.pop-requires
pop-requires c = omega (arith, ap length c.requires.asks.1.operands_are)

pub push-requires : goal.push-requires
push-requires c =
    let room = operand-room c.requires.point.point c.requires.point.unfinished in
    omega (arith, room, ap length c.pop.ensures.popped, c.pop.ensures.room)

pub overflow_add-self : goal.overflow_add-self
overflow_add-self c = omega (arith, c.requires.asks.1.fits)

pub leave_finished-requires-clause-point : goal.leave_finished-requires-clause-point
leave_finished-requires-clause-point c =
    let asks = c.requires.asks.1 in
    let told = told-point c.args.program.now c.requires.executed c.requires.point.point asks.index asks.calls asks.host c.args.value c.ranges.value.fits in
    let left : drop 1 (point_of c.args.self.now).operands ≡ c.pop.new.self.values = ap (drop 1) c.pop.ensures.popped in
    rw (c.push.ensures, c.from.ensures, c.pop.ensures.room) (rw left at told)
