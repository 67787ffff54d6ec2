use Rattle.std.proofs.Common.{◌+◌, ◌-◌, refl, sym, ◌∙◌, arith}
use Rattle.std.proofs.lemmas.Bool.{false≢true}
use Rattle.qw_machine.specs.Inner.Points.{point_of}
use Rattle.qw_machine.specs.Inner.Rooms.{rooms_of}
use Rattle.qw_machine.proofs.Runs.{run-none, run-after, run-on, run-keeps-length}
use Rattle.qw_machine.proofs.activity.Activity.run.Goals as goal
use Rattle.qw_machine.proofs.activity.Activity.run.Goals.{in-Ran, in_default}

pub loop-steps-init : goal.loop-steps-init
loop-steps-init c =
    (refl, run-none c.args.program.now (rooms_of c.args.self.now) c.args.spare c.args.most (point_of c.args.self.now) c.args.memory.now.octets 0 refl c.requires.point, refl)

pub stretch-run-requires-clause-pages : goal.stretch-run-requires-clause-pages
stretch-run-requires-clause-pages c =
    let is = c.loop-steps.invariant in
    rw (
      is.2,
      run-keeps-length c.args.program.now (rooms_of c.args.self.now) c.args.spare c.args.most (point_of c.args.self.now) c.args.memory.now.octets
          c.loop-steps.steps (point_of c.loop-steps.self) c.loop-steps.memory.octets is.1,
    ) c.requires.pages

pub returns-then-not-matches-clause-run : goal.returns-then-not-matches-clause-run
returns-then-not-matches-clause-run c =
    let is = c.loop-steps.invariant in
    run-after c.args.program.now (rooms_of c.args.self.now) c.args.spare c.args.most (point_of c.args.self.now) c.args.memory.now.octets
    c.loop-steps.steps (c.args.most - c.loop-steps.steps) (c.loop-steps.steps + c.stretch-run.result.steps)
    (point_of c.loop-steps.self) (point_of c.stretch-run.new.self) c.loop-steps.memory.octets c.stretch-run.new.memory.octets c.stretch-run.result
    (rooms_of c.loop-steps.self) is.0 is.1 c.stretch-run.ensures.run refl (omega (arith, c.loop-steps-test.true))

pub loop-steps-preserved : goal.loop-steps-preserved
loop-steps-preserved c =
    let is = c.loop-steps.invariant in
    elim c.match-matches.branch [
      | in-Ran w ↦ (
        c.stretch-run.ensures.rooms ∙ is.0,
        run-on c.args.program.now (rooms_of c.args.self.now) c.args.spare c.args.most (point_of c.args.self.now) c.args.memory.now.octets
            c.loop-steps.steps (c.args.most - c.loop-steps.steps) (c.loop-steps.steps + c.stretch-run.result.steps)
            (point_of c.loop-steps.self) (point_of c.stretch-run.new.self) c.loop-steps.memory.octets c.stretch-run.new.memory.octets c.stretch-run.result
            (rooms_of c.loop-steps.self) is.0 is.1 c.stretch-run.ensures.run refl (omega (arith, c.loop-steps-test.true)) w.in-Ran.is,
        c.stretch-run.ensures.reserved ∙ is.2,
      )
      | in_default w ↦ absurd (false≢true (sym w.matches-is ∙ c.if-not-matches.false))
    ]
