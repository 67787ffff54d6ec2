use Rattle.std.proofs.Common.{◌≡◌, ◌∙◌, refl, ap, ap₂, ℕ, List, ◌++◌, length, take, drop, ◌+◌, ◌-◌, arith, length-append}
use Rattle.std.specs.Vec.{with_items}
use Rattle.std.proofs.lemmas.List.{with_items_is, length-take-le, length-drop}
use Rattle.qw_machine.specs.Inner.Ended.{answer_of}
use Rattle.qw_machine.specs.Inner.Points.{Point, point_of}
use Rattle.qw_machine.proofs.ListFacts.{take-end, append-none}
use Rattle.qw_machine.proofs.Operated.{executed-operator}
use Rattle.qw_machine.proofs.activity.Activity.operator.Goals as goal

pub operate-requires-clause-ready : goal.operate-requires-clause-ready
operate-requires-clause-ready c =
    let values = ap (λ (xs : List ℕ). take (length xs - c.args.self.now.first_local) (drop c.args.self.now.first_local xs)) c.deref_mut.ensures.value
    ∙ take-end c.args.self.now.first_local c.args.self.now.locals.items in
    rw (c.as_mut_slice.ensures.value, values) c.requires.ready

pub returns-clause-done : goal.returns-clause-done
returns-clause-done c = λ m rooms index point found.
    let first = c.args.self.now.first_local in
    let values = ap (λ (xs : List ℕ). take (length xs - first) (drop first xs)) c.deref_mut.ensures.value ∙ take-end first c.args.self.now.locals.items in
    let done = rw (c.as_mut_slice.ensures.value, values) at c.operate.ensures.done in
    let deref = c.deref_mut.result.now in
    let after = ap (λ (ys : List ℕ). take first deref ++ ys) (append-none first deref c.operate.new.locals)
    ∙ ap (λ (xs : List ℕ). take first xs ++ c.operate.new.locals) c.deref_mut.ensures.value in
    let s = c.args.self.now in
    let written = take first deref ++ (c.operate.new.locals ++ drop (length deref - first) (drop first deref)) in
    let long : length written ≡ s.locals.len = omega (
      arith,
      ap length after,
      length-append (take first s.locals.items) c.operate.new.locals,
      length-take-le first s.locals.items c.requires.locals,
      c.operate.auto.locals,
      ap length values,
      length-drop first s.locals.items,
      s.locals.ok.0,
    ) in
    let as_many : length c.operate.new.globals ≡ s.globals.len = c.operate.auto.globals ∙ c.as_mut_slice.ensures.len in
    let at : List ℕ → List ℕ → Point = λ xs ys. record (point_of s) { index = index + 1; operands = c.operate.new.operands.values; locals = xs; globals = ys } in
    executed-operator c.args.spare point found c.args.memory.now.octets c.operate.result _ done
    (answer_of c.operate.result) (at (with_items s.locals written).items (with_items s.globals c.operate.new.globals).items) refl
    (ap₂ at (with_items_is s.locals written long ∙ after) (with_items_is s.globals c.operate.new.globals as_many))
