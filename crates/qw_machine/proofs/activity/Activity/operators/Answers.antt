use Rattle.std.proofs.Common.{◌≡◌, ◌∙◌, refl, ap, ap₂, sym, subst, ℕ, List, ◌++◌, length, take, drop, ◌-◌, arith, length-append}
use Rattle.std.proofs.lemmas.List.{with_items_is, length-take-le, length-drop}
use Rattle.qw_machine.specs.Inner.Activities.{IsHalted}
use Rattle.qw_machine.specs.Inner.Points.{Point, placed, point_of}
use Rattle.qw_machine.specs.Inner.Rooms.{rooms_of}
use Rattle.qw_machine.proofs.Crossing.{halted-held, halted-within, placed-here}
use Rattle.qw_machine.proofs.ListFacts.{take-end, append-none}
use Rattle.qw_machine.proofs.Reading.{body-read}
use Rattle.qw_machine.proofs.Runs.{run-none}
use Rattle.qw_machine.proofs.activity.Activity.operators.Goals as goal

pub returns-then-not-may_begin-clause-run : goal.returns-then-not-may_begin-clause-run
returns-then-not-may_begin-clause-run c =
    rw c.going.ensures (run-none c.args.program.now (rooms_of c.args.self.now) c.args.spare c.args.most (point_of c.args.self.now) c.args.memory.now.octets 0 refl c.requires.point)

pub blocks-halted-requires-clause-point : goal.blocks-halted-requires-clause-point
blocks-halted-requires-clause-point c =
    let s = c.args.self.now in
    let p = point_of s in
    let values = ap (λ (xs : List ℕ). take (length xs - p.first_local) (drop p.first_local xs)) c.deref_mut.ensures.value ∙ take-end p.first_local p.locals in (
      c.args.program.now,
      rooms_of s,
      p,
      sym (body-read c.args.program.now p.function c.index.result.now c.requires.point.point.room.own c.index.ensures),
      rw c.take-operands.ensures.taken
          (placed-here c.args.program.now (rooms_of s) p s.awaiting s.operands _ _ c.requires.executed c.requires.point refl refl refl refl c.as_mut_slice.ensures.value values),
    )

pub returns-clause-run : goal.returns-clause-run
returns-clause-run c =
    let m = c.args.program.now in
    let s = c.args.self.now in
    let p = point_of s in
    let first = s.first_local in
    let halted = c.blocks-halted in
    let deref = c.deref_mut.result.now in
    let values = ap (λ (xs : List ℕ). take (length xs - first) (drop first xs)) c.deref_mut.ensures.value ∙ take-end first p.locals in
    let start = placed-here m (rooms_of s) p s.awaiting s.operands _ _ c.requires.executed c.requires.point refl refl refl refl c.as_mut_slice.ensures.value values in
    let after = ap (λ (ys : List ℕ). take first deref ++ ys) (append-none first deref halted.new.locals)
    ∙ ap (λ (xs : List ℕ). take first xs ++ halted.new.locals) c.deref_mut.ensures.value in
    let written = take first deref ++ (halted.new.locals ++ drop (length deref - first) (drop first deref)) in
    let long : length written ≡ s.locals.len = omega (
      arith,
      ap length after,
      length-append (take first s.locals.items) halted.new.locals,
      length-take-le first s.locals.items c.requires.point.point.first_in,
      halted.auto.locals,
      ap length values,
      length-drop first s.locals.items,
      s.locals.ok.0,
    ) in
    let as_many : length halted.new.globals ≡ s.globals.len = halted.auto.globals ∙ c.as_mut_slice.ensures.len in
    let place : List ℕ → List ℕ → Point = λ xs ys. record p { awaiting = halted.new.awaiting.values; sequence = halted.result.number; index = halted.result.index; operands = halted.new.operands.values; locals = xs; globals = ys } in
    let body = sym (body-read m p.function c.index.result.now c.requires.point.point.room.own c.index.ensures) in
    subst (λ (q : Point). IsHalted m (rooms_of s) c.args.spare c.args.most p c.args.memory.now.octets halted.result.run halted.result.done q halted.new.memory.octets)
    (sym (ap₂ place (with_items_is s.locals written long ∙ after) (with_items_is s.globals halted.new.globals as_many)))
    (halted-held m (rooms_of s) p c.as_mut_slice.result.now (take (length deref - first) (drop first deref)) c.args.spare c.args.most
    c.args.memory.now.octets halted.result.run halted.result.done
    (placed p halted.new.awaiting halted.result.number halted.result.index halted.new.operands halted.new.globals halted.new.locals) halted.new.memory.octets
    c.as_mut_slice.ensures.value values (halted-within m (rooms_of s) c.args.spare c.at_once-few.result c.args.most _ _ _ _ _ _ c.at_once-few.ensures.few ((rw c.take-operands.ensures.taken at halted.ensures.run) m (rooms_of s) p body start)))
