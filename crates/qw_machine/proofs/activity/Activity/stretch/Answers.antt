use Rattle.std.proofs.Common.{◌+◌, ◌-◌, refl, sym, ◌∙◌, arith}
use Rattle.std.proofs.lemmas.Bool.{false≢true}
use Rattle.qw_machine.specs.declared.stepped.Run.{Run}
use Rattle.qw_machine.specs.declared.stepped.Stepped.TheVariants.{Ran}
use Rattle.qw_machine.specs.Inner.Points.{point_of}
use Rattle.qw_machine.specs.Inner.Rooms.{rooms_of}
use Rattle.qw_machine.proofs.Runs.{run-keeps-length, run-told, run-step, run-within}
use Rattle.qw_machine.proofs.activity.Activity.stretch.Goals as goal
use Rattle.qw_machine.proofs.activity.Activity.stretch.Goals.{in-Ran, in_default}

pub step-last-requires-clause-pages : goal.step-last-requires-clause-pages
step-last-requires-clause-pages c =
    let halted = c.operators-halted in
    let run = rw c.in_default-done.is at halted.ensures.run in
    elim c.match-matches.branch [
      | in-Ran w ↦
          let told = run-told c.args.program.now (rooms_of c.args.self.now) c.args.spare (c.args.most - 1) (point_of c.args.self.now) c.args.memory.now.octets
          halted.result.run (point_of halted.new.self) halted.new.memory.octets w.in-Ran.is run in
          rw (
            halted.ensures.reserved,
            run-keeps-length c.args.program.now (rooms_of c.args.self.now) c.args.spare (c.args.most - 1) (point_of c.args.self.now) c.args.memory.now.octets
                halted.result.run.steps (point_of halted.new.self) halted.new.memory.octets told,
          ) c.requires.pages
      | in_default w ↦ absurd (false≢true (sym w.matches-is ∙ c.if-not-matches.false))
    ]

pub returns-in_default-done-clause-run : goal.returns-in_default-done-clause-run
returns-in_default-done-clause-run c =
    let halted = c.operators-halted in
    let run = rw c.in_default-done.is at halted.ensures.run in
    elim c.match-matches.branch [
      | in-Ran w ↦
          let told = run-told c.args.program.now (rooms_of c.args.self.now) c.args.spare (c.args.most - 1) (point_of c.args.self.now) c.args.memory.now.octets
          halted.result.run (point_of halted.new.self) halted.new.memory.octets w.in-Ran.is run in
          let going : Run = record { steps = halted.result.run.steps; last = Ran } in
          run-step c.args.program.now (rooms_of c.args.self.now) c.args.spare c.args.most (point_of c.args.self.now) c.args.memory.now.octets
          halted.result.run.steps (halted.result.run.steps + 1) (point_of halted.new.self) (point_of c.step-last.new.self) halted.new.memory.octets c.step-last.new.memory.octets c.step-last.result
          (rooms_of halted.new.self) halted.ensures.rooms
          (run-within c.args.program.now (rooms_of c.args.self.now) c.args.spare (c.args.most - 1) c.args.most (point_of c.args.self.now) (point_of halted.new.self)
          c.args.memory.now.octets halted.new.memory.octets going (omega arith) told)
          c.step-last.ensures.stepped refl (omega (arith, told.few, c.requires.some))
      | in_default w ↦ absurd (false≢true (sym w.matches-is ∙ c.if-not-matches.false))
    ]

pub returns-clause-run : goal.returns-clause-run
returns-clause-run c =
    let halted = c.operators-halted in
    let run = rw c.in-Some.is at halted.ensures.run in
    let told = run-told c.args.program.now (rooms_of c.args.self.now) c.args.spare (c.args.most - 1) (point_of c.args.self.now) c.args.memory.now.octets
    halted.result.run run.1 run.2 run.0 run.3 in
    let going : Run = record { steps = halted.result.run.steps; last = Ran } in
    let stepped = (rw halted.ensures.rooms at c.finish-last.ensures.stepped) c.args.spare run.1 run.2 halted.new.memory.octets run.4 in
    run-step c.args.program.now (rooms_of c.args.self.now) c.args.spare c.args.most (point_of c.args.self.now) c.args.memory.now.octets
    halted.result.run.steps (halted.result.run.steps + 1) run.1 (point_of c.finish-last.new.self) run.2 halted.new.memory.octets c.finish-last.result
    (rooms_of c.args.self.now) refl
    (run-within c.args.program.now (rooms_of c.args.self.now) c.args.spare (c.args.most - 1) c.args.most (point_of c.args.self.now) run.1
    c.args.memory.now.octets run.2 going (omega arith) told)
    stepped refl (omega (arith, told.few, c.requires.some))
