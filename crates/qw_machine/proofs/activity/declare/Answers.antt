use Rattle.std.proofs.Common.{◌∙◌, arith}
use Rattle.qw_machine.proofs.Rooms.{declared-on, declared-room}
use Rattle.qw_machine.proofs.activity.declare.Goals as goal

pub push_reserved-requires : goal.push_reserved-requires
push_reserved-requires c =
    let room = declared-room c.args.runs.now c.loop-run.run-index _ c.loop-run.locals.items c.loop.locals.items c.args.locals.now.items c.loop.counter _ c.loop-run-test.true
    c.loop-run.invariant.0 c.loop.invariant.0 c.loop-test.true c.requires in
    omega (arith, room, c.loop.locals.ok.0, c.loop.invariant.1, c.loop-run.invariant.1)

pub loop-run-preserved : goal.loop-run-preserved
loop-run-preserved c = (
  declared-on c.args.runs.now c.loop-run.run-index _ c.loop-run.locals.items c.loop.locals.items _ c.loop.counter c.loop-run-test.true
      c.loop-run.invariant.0 c.loop.invariant.0 c.loop-test.false c.loop.auto.counter-end,
  c.loop.invariant.1 ∙ c.loop-run.invariant.1,
)
