use Rattle.std.proofs.Common.{◌≡◌, ◌+◌, ◌-◌, ◌<◌, ◌^◌, length, refl, sym, ap, ◌∙◌, arith}
use Rattle.std.proofs.lemmas.Bool.{false≢true}
use Rattle.qw_module.specs.declared.module.Module.{Module}
use Rattle.qw_module.specs.Start.{body_of}
use Rattle.qw_module.specs.Validity.{sequences_of}
use Rattle.qw_machine.specs.declared.room.Rooms.{Rooms}
use Rattle.qw_machine.specs.declared.stepped.Stepped.TheVariants.{Ran}
use Rattle.qw_machine.specs.Inner.Points.{Point}
use Rattle.qw_machine.specs.Inner.Activities.{IsRun}
use Rattle.qw_machine.proofs.Crossing.{held, in-array, index-small, slice-read}
use Rattle.qw_machine.proofs.Reached.{Kept, kept, IsKept, IsReached, instructions-now, placed-now, inside-now, at-hand, same-length, operators-run, halted-now, operand-now, reached-same, reached-operators, reached-next, reached-turn}
use Rattle.qw_machine.proofs.Reading.{sequence-small}
use Rattle.qw_machine.proofs.Runs.{run-none}
use Rattle.qw_machine.proofs.blocks.blocks.Goals as goal
use Rattle.qw_machine.proofs.blocks.blocks.Goals.{in-Ran, in_default, After-following-run, Else-index-limit}

-- where the call began
abbrev start : After-following-run → Kept
start c =
    record { awaiting = c.args.awaiting.now; number = c.args.number; index = c.args.first; operands = c.args.operands.now; globals = c.args.globals.now; locals = c.args.locals.now; octets = c.args.memory.now.octets }

-- where the operators of a turn of the loop led
abbrev after : After-following-run → Kept
after c =
    let l = c.loop-awaiting in
    let run = c.following-run in
    record { awaiting = l.awaiting; number = l.number; index = l.index + run.result.steps; operands = run.new.operands; globals = run.new.globals; locals = run.new.locals; octets = run.new.memory.octets }

-- they are further steps
followed : (c : After-following-run) (m : Module) (rooms : Rooms) (p : Point) → sequences_of c.args.body.now ≡ body_of m p.function → IsKept m rooms p (start c) →
    IsRun m rooms c.args.spare c.args.most (kept p (start c)) (start c).octets (record { steps = c.args.most - (c.loop-awaiting.limit - (after c).index); last = c.following-run.result.last })
    (kept p (after c)) (after c).octets
followed c m rooms p body begins =
    let reached = c.loop-awaiting.invariant.reached in
    let run = c.following-run in
    operators-run reached body begins c.least-end.result run.result run.new.operands run.new.globals run.new.locals run.new.memory.octets c.least-end.ensures.one
    (run.ensures.run m rooms _ (at-hand reached body begins).followed)

-- and there is a further instruction after them
small : (c : After-following-run) → (after c).index < 2 ^ 63
small c = omega (arith, c.following-run.ensures.inside, ap length c.loop-awaiting.invariant.reached.sequence_is, sequence-small c.args.body.now c.loop-awaiting.number)

-- the last of them went on where what follows them is executed
ran : (c : Else-index-limit) → c.following-run.result.last ≡ Ran
ran c = elim c.match-matches.branch [
  | in-Ran w ↦ w.in-Ran.is
  | in_default w ↦ absurd (false≢true (sym w.matches-is ∙ c.if-not-matches.false))
]

led : (c : After-following-run) → c.following-run.result.last ≡ Ran →
    IsReached c.args.body.now c.args.spare c.args.most c.loop-awaiting.limit (start c) (after c) c.loop-awaiting.sequence.now
led c ran =
    let run = c.following-run in
    let reached = c.loop-awaiting.invariant.reached in
    reached-operators reached run.result run.new.operands run.new.globals run.new.locals run.new.memory.octets run.ensures.room ran
    (omega (arith, run.ensures.few, c.least-end.ensures.one, reached.within)) (followed c)

inside : (c : After-following-run) → c.following-run.result.last ≡ Ran → (after c).index < length c.loop-awaiting.sequence.now
inside c ran =
    let at = c.requires.point in
    inside-now (led c ran) at.3 at.4

pub index-requires : goal.index-requires
index-requires c =
    let at = c.requires.point in
    in-array at.0 at.1 (held at.2 c.args.operands.now c.args.globals.now c.args.locals.now) c.args.body.now at.3 c.args.awaiting.now.values c.args.number c.args.first at.4.running.point

pub overflow_add-limit : goal.overflow_add-limit
overflow_add-limit c =
    let at = c.requires.point in
    let small = index-small at.0 at.1 (held at.2 c.args.operands.now c.args.globals.now c.args.locals.now) c.args.body.now at.3 c.args.awaiting.now.values c.args.number c.args.first at.4.running.point in
    omega (arith, small, c.requires.most)

pub loop-awaiting-init : goal.loop-awaiting-init
loop-awaiting-init c =
    let at = c.requires.point in
    let begun : Kept = record { awaiting = c.args.awaiting.now; number = c.args.number; index = c.args.first; operands = c.args.operands.now; globals = c.args.globals.now; locals = c.args.locals.now; octets = c.args.memory.now.octets } in
    record {
      reserved = refl;
      again = tt;
      reached = record {
        awaiting_room = refl;
        operands_room = refl;
        sequence_is = slice-read at.0 at.1 (held at.2 c.args.operands.now c.args.globals.now c.args.locals.now) c.args.body.now at.3 c.args.awaiting.now.values c.args.number c.args.first at.4.running.point
            c.index.result.now c.as_slice-sequence.result.now c.index.ensures c.as_slice-sequence.ensures.value;
        within = omega arith;
        few = omega arith;
        runs = λ m rooms p body begins.
            run-none m rooms c.args.spare c.args.most (kept p begun) begun.octets (c.args.most - (c.args.first + c.args.most - c.args.first)) (omega arith) begins.running;
      };
    }

pub overflow_sub-sequence : goal.overflow_sub-sequence
overflow_sub-sequence c =
    let at = c.requires.point in
    omega (arith, inside-now c.loop-awaiting.invariant.reached at.3 at.4)

pub following-run-requires-clause-end : goal.following-run-requires-clause-end
following-run-requires-clause-end c =
    let at = c.requires.point in
    omega (arith, inside-now c.loop-awaiting.invariant.reached at.3 at.4, c.least-end.ensures.other)

pub following-run-requires-clause-point : goal.following-run-requires-clause-point
following-run-requires-clause-point c =
    let at = c.requires.point in
    (at.0, at.1, _, (at-hand c.loop-awaiting.invariant.reached at.3 at.4).followed)

pub following-run-requires-clause-pages : goal.following-run-requires-clause-pages
following-run-requires-clause-pages c =
    let at = c.requires.point in
    rw (c.loop-awaiting.invariant.reserved, same-length c.loop-awaiting.invariant.reached at.3 at.4) c.requires.pages

pub overflow_add-index : goal.overflow_add-index
overflow_add-index c = omega (arith, small (goal.at.overflow_add-index c).After-following-run)

pub returns-then-not-matches-clause-run : goal.returns-then-not-matches-clause-run
returns-then-not-matches-clause-run c = followed (goal.at.returns-then-not-matches-clause-run c).After-following-run

pub decide-requires-clause-inside : goal.decide-requires-clause-inside
decide-requires-clause-inside c = inside (goal.at.decide-requires-clause-inside c).After-following-run (ran (goal.at.decide-requires-clause-inside c).Else-index-limit)

pub decide-requires-clause-point : goal.decide-requires-clause-point
decide-requires-clause-point c =
    let g = goal.at.decide-requires-clause-point c in
    let at = c.requires.point in
    let r = led g.After-following-run (ran g.Else-index-limit) in
    (at.0, at.1, at.2, c.following-run.new.globals, c.following-run.new.locals, at.3, instructions-now r at.3 at.4, placed-now r at.3 at.4)

pub overflow_add-index-then-not-decided : goal.overflow_add-index-then-not-decided
overflow_add-index-then-not-decided c = omega (arith, small (goal.at.overflow_add-index-then-not-decided c).After-following-run)

pub loop-awaiting-preserved-then-not-decided : goal.loop-awaiting-preserved-then-not-decided
loop-awaiting-preserved-then-not-decided c =
    let g = goal.at.loop-awaiting-preserved-then-not-decided c in
    let l = c.loop-awaiting in
    let r = led g.After-following-run (ran g.Else-index-limit) in
    let passes = c.in-Some.ensures.passes c.if-not-decided.true in
    let decided : Kept = record (after g.After-following-run) { awaiting = c.decide.new.awaiting; number = c.in-Some.decided.number; index = c.in-Some.decided.index; operands = c.decide.new.operands } in
    record {
      reserved = c.following-run.ensures.reserved ∙ l.invariant.reserved;
      again = rw passes.2 l.invariant.again;
      reached = reached-next r l.limit l.sequence.now decided l.number (l.index + c.following-run.result.steps + 1) passes.0 passes.1 c.decide.ensures.rooms.0 c.decide.ensures.rooms.1
          l.invariant.reached.sequence_is c.in-Some.decided.sequence.now c.in-Some.ensures.goes c.if-index-limit.false (omega (arith, r.within, c.if-index-limit.false))
          (λ m rooms p body same begun. c.in-Some.ensures.done m rooms p decided.globals decided.locals c.args.spare decided.octets body same begun);
    }

pub overflow_add-limit-in-Some : goal.overflow_add-limit-in-Some
overflow_add-limit-in-Some c = omega (arith, small (goal.at.overflow_add-limit-in-Some c).After-following-run)

pub loop-awaiting-preserved-in-Some : goal.loop-awaiting-preserved-in-Some
loop-awaiting-preserved-in-Some c =
    let g = goal.at.loop-awaiting-preserved-in-Some c in
    let l = c.loop-awaiting in
    let r = led g.After-following-run (ran g.Else-index-limit) in
    let goes = c.in-Some.ensures.goes in
    let decided : Kept = record (after g.After-following-run) { awaiting = c.decide.new.awaiting; number = c.in-Some.decided.number; index = c.in-Some.decided.index; operands = c.decide.new.operands } in
    record {
      reserved = c.following-run.ensures.reserved ∙ l.invariant.reserved;
      again = tt;
      reached = reached-next r (l.limit - (l.index + c.following-run.result.steps + 1)) c.in-Some.decided.sequence.now decided c.in-Some.decided.number 0 refl (c.in-Some.ensures.enters c.if-not-decided.false)
          c.decide.ensures.rooms.0 c.decide.ensures.rooms.1 goes.1 c.in-Some.decided.sequence.now goes c.if-index-limit.false (omega arith)
          (λ m rooms p body same begun. c.in-Some.ensures.done m rooms p decided.globals decided.locals c.args.spare decided.octets body same begun);
    }

pub turned-requires-clause-inside : goal.turned-requires-clause-inside
turned-requires-clause-inside c = inside (goal.at.turned-requires-clause-inside c).After-following-run (ran (goal.at.turned-requires-clause-inside c).Else-index-limit)

pub turned-requires-clause-operand : goal.turned-requires-clause-operand
turned-requires-clause-operand c = λ branches.
    let g = goal.at.turned-requires-clause-operand c in
    let at = c.requires.point in
    let stays = c.decide.ensures.stays c.in_default-decide.is in
    rw stays.1 (operand-now (led g.After-following-run (ran g.Else-index-limit)) at.3 at.4 branches)

pub turned-requires-clause-known : goal.turned-requires-clause-known
turned-requires-clause-known c =
    let stays = c.decide.ensures.stays c.in_default-decide.is in
    rw stays.0 c.loop-awaiting.invariant.again

pub overflow_add-limit-then-turned : goal.overflow_add-limit-then-turned
overflow_add-limit-then-turned c = omega (arith, small (goal.at.overflow_add-limit-then-turned c).After-following-run)

pub overflow_sub-limit-then-turned : goal.overflow_sub-limit-then-turned
overflow_sub-limit-then-turned c = omega (arith, c.turned.ensures.few c.if-turned.true)

pub loop-awaiting-smaller-then-turned : goal.loop-awaiting-smaller-then-turned
loop-awaiting-smaller-then-turned c = omega (arith, c.turned.ensures.few c.if-turned.true)

pub loop-awaiting-preserved-then-turned : goal.loop-awaiting-preserved-then-turned
loop-awaiting-preserved-then-turned c =
    let g = goal.at.loop-awaiting-preserved-then-turned c in
    let stays = c.decide.ensures.stays c.in_default-decide.is in
    let r = reached-same (led g.After-following-run (ran g.Else-index-limit)) c.decide.new.awaiting c.decide.new.operands stays.0 stays.1 in
    record {
      reserved = c.following-run.ensures.reserved ∙ c.loop-awaiting.invariant.reserved;
      again = c.turned.ensures.known;
      reached = reached-turn r c.turned.new.operands c.turned.ensures.room (c.turned.ensures.few c.if-turned.true) (c.turned.ensures.turned c.if-turned.true);
    }

pub cross-requires-clause-inside : goal.cross-requires-clause-inside
cross-requires-clause-inside c = inside (goal.at.cross-requires-clause-inside c).After-following-run (ran (goal.at.cross-requires-clause-inside c).Else-index-limit)

pub cross-requires-clause-point : goal.cross-requires-clause-point
cross-requires-clause-point c =
    let g = goal.at.cross-requires-clause-point c in
    let at = c.requires.point in
    let stays = c.decide.ensures.stays c.in_default-decide.is in
    let r = reached-same (led g.After-following-run (ran g.Else-index-limit)) c.decide.new.awaiting c.turned.new.operands stays.0 (c.turned.ensures.stays c.if-turned.false ∙ stays.1) in
    (at.0, at.1, at.2, at.3, instructions-now r at.3 at.4, placed-now r at.3 at.4)

pub cross-requires-clause-pages : goal.cross-requires-clause-pages
cross-requires-clause-pages c =
    let g = goal.at.cross-requires-clause-pages c in
    let at = c.requires.point in
    rw (c.following-run.ensures.reserved ∙ c.loop-awaiting.invariant.reserved, same-length (led g.After-following-run (ran g.Else-index-limit)) at.3 at.4) c.requires.pages

pub returns-in_default-cross-clause-run : goal.returns-in_default-cross-clause-run
returns-in_default-cross-clause-run c = λ m rooms p body begins.
    let g = goal.at.returns-in_default-cross-clause-run c in
    let stays = c.decide.ensures.stays c.in_default-decide.is in
    let r = reached-same (led g.After-following-run (ran g.Else-index-limit)) c.decide.new.awaiting c.turned.new.operands stays.0 (c.turned.ensures.stays c.if-turned.false ∙ stays.1) in
    let cross = c.cross.ensures.stays c.in_default-cross.is in
    rw (cross.0, cross.1, cross.2, cross.3, cross.4, c.going.ensures) (r.runs m rooms p body begins)

pub returns-then-not-crossed-clause-run : goal.returns-then-not-crossed-clause-run
returns-then-not-crossed-clause-run c = λ m rooms p body begins.
    let g = goal.at.returns-then-not-crossed-clause-run c in
    let stays = c.decide.ensures.stays c.in_default-decide.is in
    let r = reached-same (led g.After-following-run (ran g.Else-index-limit)) c.decide.new.awaiting c.turned.new.operands stays.0 (c.turned.ensures.stays c.if-turned.false ∙ stays.1) in
    halted-now r body begins c.going-then-not-crossed.result c.going-then-not-crossed.ensures _ _ _
    (c.in-Some-cross.ensures.done m rooms p body (instructions-now r body begins) (placed-now r body begins))

pub overflow_add-limit-in-loop-awaiting : goal.overflow_add-limit-in-loop-awaiting
overflow_add-limit-in-loop-awaiting c =
    let goes = c.in-Some-cross.ensures.goes c.if-not-crossed.false in
    omega (arith, goes.1, ap length goes.2, sequence-small c.args.body.now c.in-Some-cross.crossed.number, c.if-index-limit.false, c.loop-awaiting.invariant.reached.few, c.requires.most)

pub loop-awaiting-preserved : goal.loop-awaiting-preserved
loop-awaiting-preserved c =
    let g = goal.at.loop-awaiting-preserved c in
    let stays = c.decide.ensures.stays c.in_default-decide.is in
    let r = reached-same (led g.After-following-run (ran g.Else-index-limit)) c.decide.new.awaiting c.turned.new.operands stays.0 (c.turned.ensures.stays c.if-turned.false ∙ stays.1) in
    let goes = c.in-Some-cross.ensures.goes c.if-not-crossed.false in
    let crossed : Kept = record { awaiting = c.cross.new.awaiting; number = c.in-Some-cross.crossed.number; index = c.in-Some-cross.crossed.index; operands = c.cross.new.operands; globals = c.cross.new.globals; locals = c.cross.new.locals; octets = c.cross.new.memory.octets } in
    record {
      reserved = c.cross.ensures.reserved ∙ c.following-run.ensures.reserved ∙ c.loop-awaiting.invariant.reserved;
      again = tt;
      reached = reached-next r (c.loop-awaiting.limit - (c.loop-awaiting.index + c.following-run.result.steps) - 1 + crossed.index) c.in-Some-cross.crossed.sequence.now crossed crossed.number crossed.index refl refl
          c.cross.ensures.rooms.0 c.cross.ensures.rooms.1 goes.2 c.in-Some-cross.crossed.sequence.now (goes.1, goes.2) c.if-index-limit.false (omega arith)
          (λ m rooms p body same begun. rw goes.0 at c.in-Some-cross.ensures.done m rooms p body same begun);
    }
