use Rattle.std.proofs.Common.{◌≡◌, ℕ, ◌+◌, ◌-◌, ◌<◌, length, refl, sym, ap, subst, ◌∙◌, arith}
use Rattle.std.proofs.lemmas.Bool.{false≢true}
use Rattle.qw_machine.specs.declared.stepped.Run.{Run}
use Rattle.qw_machine.specs.declared.stepped.Stepped.TheVariants.{Ran}
use Rattle.qw_machine.specs.Inner.Activities.{IsRun}
use Rattle.qw_machine.specs.Inner.Ended.{answer_of}
use Rattle.qw_machine.specs.Inner.Operated.{Held}
use Rattle.qw_machine.specs.Inner.Points.{with_held}
use Rattle.qw_machine.proofs.Around.{operand-room}
use Rattle.qw_machine.proofs.Followed.{followed-inside, followed-ready, followed-next}
use Rattle.qw_machine.proofs.Runs.{run-none, run-told, run-keeps-length}
use Rattle.qw_machine.proofs.following.following.Goals as goal
use Rattle.qw_machine.proofs.following.following.Goals.{in-Ran, in_default-matches}

pub loop-index-init : goal.loop-index-init
loop-index-init c = record {
  room = refl;
  from = omega arith;
  reserved = refl;
  runs = λ m rooms p start. run-none m rooms c.args.spare (c.args.end - c.args.first) (with_held p c.args.first c.args.operands.now.values c.args.globals.now c.args.locals.now)
      c.args.memory.now.octets (c.args.first - c.args.first) (omega arith) start.running;
}

pub operate-done-requires-clause-ready : goal.operate-done-requires-clause-ready
operate-done-requires-clause-ready c =
    let l = c.loop-index in
    let at = c.requires.point in
    let now : Held = record { operands = l.operands.values; globals = l.globals; locals = l.locals; memory = l.memory.octets } in
    followed-ready at.0 at.1 at.2 c.args.sequence.now c.args.first c.args.operands.now.room c.args.operands.now.values c.args.globals.now c.args.locals.now at.3
    c.args.spare (c.args.end - c.args.first) (l.index - c.args.first) c.args.memory.now.octets l.index now (l.invariant.runs at.0 at.1 at.2 at.3) c.in-Op.op _ c.in-Op.is

pub operate-done-requires-clause-room : goal.operate-done-requires-clause-room
operate-done-requires-clause-room c =
    let at = c.requires.point in
    let running = (c.loop-index.invariant.runs at.0 at.1 at.2 at.3).running in
    let less = operand-room running.point running.unfinished in
    omega (arith, less, at.3.room_is, c.loop-index.invariant.room)

pub operate-done-requires-clause-pages : goal.operate-done-requires-clause-pages
operate-done-requires-clause-pages c =
    let l = c.loop-index in
    let at = c.requires.point in
    rw (
      l.invariant.reserved,
      run-keeps-length at.0 at.1 c.args.spare (c.args.end - c.args.first) (with_held at.2 c.args.first c.args.operands.now.values c.args.globals.now c.args.locals.now) c.args.memory.now.octets
          (l.index - c.args.first) (with_held at.2 l.index l.operands.values l.globals l.locals) l.memory.octets (l.invariant.runs at.0 at.1 at.2 at.3),
    ) c.requires.pages

pub returns-then-not-matches-clause-run : goal.returns-then-not-matches-clause-run
returns-then-not-matches-clause-run c = λ m rooms p start.
    let l = c.loop-index in
    let done = c.operate-done.new in
    let now : Held = record { operands = l.operands.values; globals = l.globals; locals = l.locals; memory = l.memory.octets } in
    let after : Held = record { operands = done.operands.values; globals = done.globals; locals = done.locals; memory = done.memory.octets } in
    let here : l.index + 1 ≡ c.args.first + (l.index + 1 - c.args.first) = omega (arith, l.invariant.from) in
    rw c.operated.ensures (subst (λ (n : ℕ). IsRun m rooms c.args.spare (c.args.end - c.args.first)
    (with_held p c.args.first c.args.operands.now.values c.args.globals.now c.args.locals.now) c.args.memory.now.octets
    (record { steps = l.index + 1 - c.args.first; last = answer_of c.operate-done.result })
    (with_held p n done.operands.values done.globals done.locals) done.memory.octets) here
    (followed-next m rooms p c.args.sequence.now c.args.first c.args.operands.now.room c.args.operands.now.values c.args.globals.now c.args.locals.now start
    c.args.spare (c.args.end - c.args.first) (l.index - c.args.first) c.args.memory.now.octets l.index now (l.invariant.runs m rooms p start) c.in-Op.op _ c.in-Op.is
    c.operate-done.result after c.operate-done.ensures.done (omega (arith, c.loop-index-test.true, c.requires.end))
    (l.index + 1 - c.args.first) (omega (arith, l.invariant.from)) (omega (arith, l.invariant.from, c.loop-index-test.true))))

pub loop-index-preserved : goal.loop-index-preserved
loop-index-preserved c =
    let l = c.loop-index in
    let done = c.operate-done.new in
    let now : Held = record { operands = l.operands.values; globals = l.globals; locals = l.locals; memory = l.memory.octets } in
    let after : Held = record { operands = done.operands.values; globals = done.globals; locals = done.locals; memory = done.memory.octets } in
    elim c.match-matches.branch [
      | in-Ran w ↦ record {
        room = c.operate-done.ensures.room ∙ l.invariant.room;
        from = omega (arith, l.invariant.from);
        reserved = c.operate-done.ensures.reserved ∙ l.invariant.reserved;
        runs = λ m rooms p start. run-told m rooms c.args.spare (c.args.end - c.args.first) (with_held p c.args.first c.args.operands.now.values c.args.globals.now c.args.locals.now) c.args.memory.now.octets
            (record { steps = l.index + 1 - c.args.first; last = answer_of c.operate-done.result })
            (with_held p (l.index + 1) done.operands.values done.globals done.locals) done.memory.octets (ap answer_of w.in-Ran.is)
            (followed-next m rooms p c.args.sequence.now c.args.first c.args.operands.now.room c.args.operands.now.values c.args.globals.now c.args.locals.now start
            c.args.spare (c.args.end - c.args.first) (l.index - c.args.first) c.args.memory.now.octets l.index now (l.invariant.runs m rooms p start) c.in-Op.op _ c.in-Op.is
            c.operate-done.result after c.operate-done.ensures.done (omega (arith, c.loop-index-test.true, c.requires.end))
            (l.index + 1 - c.args.first) (omega (arith, l.invariant.from)) (omega (arith, l.invariant.from, c.loop-index-test.true)));
      }
      | in_default-matches w ↦ absurd (false≢true (sym w.matches-is ∙ c.if-not-matches.false))
    ]

pub returns-clause-run : goal.returns-clause-run
returns-clause-run c = λ m rooms p start.
    let l = c.loop-index in
    let here : l.index ≡ c.args.first + (l.index - c.args.first) = omega (arith, l.invariant.from) in
    rw c.going.ensures (subst (λ (n : ℕ). IsRun m rooms c.args.spare (c.args.end - c.args.first)
    (with_held p c.args.first c.args.operands.now.values c.args.globals.now c.args.locals.now) c.args.memory.now.octets
    (record { steps = l.index - c.args.first; last = Ran })
    (with_held p n l.operands.values l.globals l.locals) l.memory.octets) here (l.invariant.runs m rooms p start))

pub returns-clause-few : goal.returns-clause-few
returns-clause-few c =
    let at = c.requires.point in
    omega (arith, (c.loop-index.invariant.runs at.0 at.1 at.2 at.3).few, ap (λ (r : Run). r.steps) c.going.ensures)

pub returns-clause-inside : goal.returns-clause-inside
returns-clause-inside c =
    let l = c.loop-index in
    let at = c.requires.point in
    let now : Held = record { operands = l.operands.values; globals = l.globals; locals = l.locals; memory = l.memory.octets } in
    let within : l.index < length c.args.sequence.now = followed-inside at.0 at.1 at.2 c.args.sequence.now c.args.first c.args.operands.now.room c.args.operands.now.values c.args.globals.now c.args.locals.now at.3
    c.args.spare (c.args.end - c.args.first) (l.index - c.args.first) c.args.memory.now.octets l.index now (l.invariant.runs at.0 at.1 at.2 at.3) in
    omega (arith, within, l.invariant.from, ap (λ (r : Run). r.steps) c.going.ensures)
