use Rattle.std.proofs.Common.{◌≡◌, ◌∙◌, refl, sym, ap, ℕ, List, ◌∷◌, Option, Some, length, ◌+◌, arith}
use Rattle.std.proofs.lemmas.Option.{none-some}
use Rattle.qw_module.specs.declared.instruction.Instr.TheVariants as i
use Rattle.qw_module.specs.Execution.{chosen}
use Rattle.qw_module.specs.Syntax.{labels_in}
use Rattle.qw_module.specs.Validity.{imported_functions}
use Rattle.qw_machine.specs.Inner.Points.{point_of}
use Rattle.qw_machine.specs.Inner.Rooms.{rooms_of}
use Rattle.qw_machine.proofs.Arrays.{instruction-there, labels-read}
use Rattle.qw_machine.proofs.Around.{operand-room}
use Rattle.qw_machine.proofs.Operated.{operator-ready}
use Rattle.qw_machine.proofs.Calls.{done-call, own-there, own-operands, own-awaiting, own-locals}
use Rattle.qw_machine.proofs.Controlled.{executed-unreachable, executed-block, executed-loop, if-operand, executed-if, executed-else, executed-without, can-jump-br, executed-br, br_if-operand, can-jump-br_if, executed-br_if, executed-br_if-not, br_table-labels, br_table-operand, can-jump-br_table, executed-br_table, executed-last, can-leave-return, executed-return}
use Rattle.qw_machine.proofs.activity.Activity.execute.Goals as goal
use Rattle.qw_machine.proofs.activity.Activity.execute.Goals.{then-pop-ne0, else-pop-ne0}

pub operator-done-requires-clause-ready : goal.operator-done-requires-clause-ready
operator-done-requires-clause-ready c =
    let found = instruction-there c.requires.sequence c.requires.unfinished _ c.in-Op.is in
    operator-ready c.args.spare c.requires.point found

pub operator-done-requires-clause-room : goal.operator-done-requires-clause-room
operator-done-requires-clause-room c = operand-room c.requires.point c.requires.unfinished

pub returns-in-Op-clause-done : goal.returns-in-Op-clause-done
returns-in-Op-clause-done c =
    let found = instruction-there c.requires.sequence c.requires.unfinished _ c.in-Op.is in
    rw c.operated.ensures (c.operator-done.ensures.done c.args.program.now (rooms_of c.args.self.now) c.args.self.now.index c.requires.point found)

pub returns-in-Unreachable-clause-done : goal.returns-in-Unreachable-clause-done
returns-in-Unreachable-clause-done c =
    let found = instruction-there c.requires.sequence c.requires.unfinished _ c.in-Unreachable.is in
    executed-unreachable c.args.spare c.requires.executed c.requires.point c.requires.unfinished found (point_of c.args.self.now) c.args.memory.now.octets

pub pop-requires : goal.pop-requires
pop-requires c =
    let found = instruction-there c.requires.sequence c.requires.unfinished _ c.in-If.is in
    if-operand c.args.spare c.requires.executed c.requires.point c.requires.unfinished
    c.in-If.result c.in-If.then_body c.in-If.else_body found

pub branch-self-requires-clause-there : goal.branch-self-requires-clause-there
branch-self-requires-clause-there c =
    let found = instruction-there c.requires.sequence c.requires.unfinished _ c.in-Br.is in
    can-jump-br c.args.spare c.requires.executed c.requires.point c.requires.unfinished c.in-Br.index found

pub pop-requires-in-BrIf : goal.pop-requires-in-BrIf
pop-requires-in-BrIf c =
    let found = instruction-there c.requires.sequence c.requires.unfinished _ c.in-BrIf.is in
    br_if-operand c.args.spare c.requires.executed c.requires.point c.requires.unfinished c.in-BrIf.index found

pub branch-self-requires-then-pop-ne0-2-clause-there : goal.branch-self-requires-then-pop-ne0-2-clause-there
branch-self-requires-then-pop-ne0-2-clause-there c =
    let found = instruction-there c.requires.sequence c.requires.unfinished _ c.in-BrIf.is in
    can-jump-br_if c.args.spare c.requires.executed c.requires.point c.requires.unfinished
    c.in-BrIf.index found c.pop-in-BrIf.result c.pop-in-BrIf.new.self.values c.pop-in-BrIf.ensures.popped

pub branch-self-requires-then-pop-ne0-2-clause-room : goal.branch-self-requires-then-pop-ne0-2-clause-room
branch-self-requires-then-pop-ne0-2-clause-room c =
    let room = operand-room c.requires.point c.requires.unfinished in
    omega (arith, ap length c.pop-in-BrIf.ensures.popped, c.pop-in-BrIf.ensures.room)

pub pop-operand-requires : goal.pop-operand-requires
pop-operand-requires c =
    let found = instruction-there c.requires.sequence c.requires.unfinished _ c.in-BrTable.is in
    br_table-operand c.args.spare c.requires.executed c.requires.point c.requires.unfinished c.in-BrTable.first c.in-BrTable.count c.in-BrTable.default found

pub choose-index-requires : goal.choose-index-requires
choose-index-requires c =
    let found = instruction-there c.requires.sequence c.requires.unfinished _ c.in-BrTable.is in
    let labels = labels-read c.args.program.now c.requires.point.room.own c.index.ensures c.deref.result.now c.deref.ensures.value in
    let there = br_table-labels c.args.spare c.requires.executed c.requires.point c.requires.unfinished c.in-BrTable.first c.in-BrTable.count c.in-BrTable.default found in
    rw labels at there

pub branch-self-requires-in-BrTable-clause-there : goal.branch-self-requires-in-BrTable-clause-there
branch-self-requires-in-BrTable-clause-there c =
    let found = instruction-there c.requires.sequence c.requires.unfinished _ c.in-BrTable.is in
    let labels = labels-read c.args.program.now c.requires.point.room.own c.index.ensures c.deref.result.now c.deref.ensures.value in
    let index = c.choose-index.ensures
    ∙ ap (λ (ls : List ℕ). chosen (labels_in ls c.in-BrTable.first c.in-BrTable.count) c.in-BrTable.default c.pop-operand.result) (sym labels) in
    rw index (can-jump-br_table c.args.spare c.requires.executed c.requires.point c.requires.unfinished
    c.in-BrTable.first c.in-BrTable.count c.in-BrTable.default found c.pop-operand.result c.pop-operand.new.self.values c.pop-operand.ensures.popped)

pub branch-self-requires-in-BrTable-clause-room : goal.branch-self-requires-in-BrTable-clause-room
branch-self-requires-in-BrTable-clause-room c =
    let room = operand-room c.requires.point c.requires.unfinished in
    omega (arith, ap length c.pop-operand.ensures.popped, c.pop-operand.ensures.room)

pub returns-then-self-eq0-clause-done : goal.returns-then-self-eq0-clause-done
returns-then-self-eq0-clause-done c =
    let found = instruction-there c.requires.sequence c.requires.unfinished _ c.in-Return.is in
    executed-last c.args.spare c.requires.executed c.requires.point c.requires.unfinished
    found c.if-self-eq0.true (point_of c.args.self.now) c.args.memory.now.octets

pub leave-requires-clause-there : goal.leave-requires-clause-there
leave-requires-clause-there c =
    let found = instruction-there c.requires.sequence c.requires.unfinished _ c.in-Return.is in
    can-leave-return c.args.spare c.requires.executed c.requires.point c.requires.unfinished found c.if-self-eq0.false

pub returns-in-Block-clause-done : goal.returns-in-Block-clause-done
returns-in-Block-clause-done c =
    let found = instruction-there c.requires.sequence c.requires.unfinished _ c.in-Block.is in
    executed-block c.args.spare c.requires.executed c.requires.point c.requires.unfinished
    c.in-Block.result c.in-Block.body found (point_of c.enter.new.self) c.args.memory.now.octets (rw (← c.is_some.ensures) c.enter.ensures.point)

pub returns-in-Loop-clause-done : goal.returns-in-Loop-clause-done
returns-in-Loop-clause-done c =
    let found = instruction-there c.requires.sequence c.requires.unfinished _ c.in-Loop.is in
    executed-loop c.args.spare c.requires.executed c.requires.point c.requires.unfinished
    _ c.in-Loop.body found (point_of c.enter-in-Loop.new.self) c.args.memory.now.octets c.enter-in-Loop.ensures.point

pub returns-in-Some-clause-done : goal.returns-in-Some-clause-done
returns-in-Some-clause-done c =
    let found = instruction-there c.requires.sequence c.requires.unfinished _ c.in-If.is in
    elim c.if-pop-ne0.branch [
      | then-pop-ne0 w ↦
          let body : c.in-Some.body ≡ c.in-If.then_body = cc (w.body-is, c.in-Some.is) in
          executed-if c.args.spare c.requires.executed c.requires.point c.requires.unfinished
          c.in-If.result c.in-If.then_body c.in-If.else_body found c.pop.result c.pop.new.self.values (point_of c.enter-in-Some.new.self) c.args.memory.now.octets
          c.pop.ensures.popped w.if-pop-ne0.true (rw (← c.is_some-in-Some.ensures, ← body) c.enter-in-Some.ensures.point)
      | else-pop-ne0 w ↦
          let body : c.in-If.else_body ≡ Some c.in-Some.body = sym w.body-is ∙ c.in-Some.is in
          let there = found ∙ ap (λ (other : Option ℕ). Some (i.If c.in-If.result c.in-If.then_body other)) body in
          executed-else c.args.spare c.requires.executed c.requires.point c.requires.unfinished
          c.in-If.result c.in-If.then_body c.in-Some.body there c.pop.new.self.values (point_of c.enter-in-Some.new.self) c.args.memory.now.octets
          (c.pop.ensures.popped ∙ ap (λ (n : ℕ). n ∷ c.pop.new.self.values) w.if-pop-ne0.false) (rw (← c.is_some-in-Some.ensures) c.enter-in-Some.ensures.point)
    ]

pub returns-in-None-clause-done : goal.returns-in-None-clause-done
returns-in-None-clause-done c =
    let found = instruction-there c.requires.sequence c.requires.unfinished _ c.in-If.is in
    elim c.if-pop-ne0.branch [
      | then-pop-ne0 w ↦ absurd (none-some c.in-If.then_body (sym c.in-None.is ∙ w.body-is))
      | else-pop-ne0 w ↦
          let there = found ∙ ap (λ (other : Option ℕ). Some (i.If c.in-If.result c.in-If.then_body other)) (sym w.body-is ∙ c.in-None.is) in
          executed-without c.args.spare c.requires.executed c.requires.point c.requires.unfinished
          c.in-If.result c.in-If.then_body there c.pop.new.self.values _ c.args.memory.now.octets
          (c.pop.ensures.popped ∙ ap (λ (n : ℕ). n ∷ c.pop.new.self.values) w.if-pop-ne0.false) refl
    ]

pub returns-in-Br-clause-done : goal.returns-in-Br-clause-done
returns-in-Br-clause-done c =
    let found = instruction-there c.requires.sequence c.requires.unfinished _ c.in-Br.is in
    executed-br c.args.spare c.requires.executed c.requires.point c.requires.unfinished c.in-Br.index found _ c.args.memory.now.octets c.branch-self.ensures.jump

pub returns-then-pop-ne0-2-clause-done : goal.returns-then-pop-ne0-2-clause-done
returns-then-pop-ne0-2-clause-done c =
    let found = instruction-there c.requires.sequence c.requires.unfinished _ c.in-BrIf.is in
    executed-br_if c.args.spare c.requires.executed c.requires.point c.requires.unfinished
    c.in-BrIf.index found c.pop-in-BrIf.result c.pop-in-BrIf.new.self.values (point_of c.branch-self-then-pop-ne0-2.new.self) c.args.memory.now.octets
    c.pop-in-BrIf.ensures.popped c.if-pop-ne0-2.true c.branch-self-then-pop-ne0-2.ensures.jump

pub returns-else-pop-ne0-2-clause-done : goal.returns-else-pop-ne0-2-clause-done
returns-else-pop-ne0-2-clause-done c =
    let found = instruction-there c.requires.sequence c.requires.unfinished _ c.in-BrIf.is in
    executed-br_if-not c.args.spare c.requires.executed c.requires.point c.requires.unfinished
    c.in-BrIf.index found c.pop-in-BrIf.new.self.values _ c.args.memory.now.octets
    (c.pop-in-BrIf.ensures.popped ∙ ap (λ (n : ℕ). n ∷ c.pop-in-BrIf.new.self.values) c.if-pop-ne0-2.false) refl

pub returns-in-BrTable-clause-done : goal.returns-in-BrTable-clause-done
returns-in-BrTable-clause-done c =
    let found = instruction-there c.requires.sequence c.requires.unfinished _ c.in-BrTable.is in
    let labels = labels-read c.args.program.now c.requires.point.room.own c.index.ensures c.deref.result.now c.deref.ensures.value in
    let index = c.choose-index.ensures
    ∙ ap (λ (ls : List ℕ). chosen (labels_in ls c.in-BrTable.first c.in-BrTable.count) c.in-BrTable.default c.pop-operand.result) (sym labels) in
    executed-br_table c.args.spare c.requires.executed c.requires.point c.requires.unfinished
    c.in-BrTable.first c.in-BrTable.count c.in-BrTable.default found c.pop-operand.result c.pop-operand.new.self.values (point_of c.branch-self-in-BrTable.new.self)
    c.args.memory.now.octets c.pop-operand.ensures.popped (rw index at c.branch-self-in-BrTable.ensures.jump)

pub returns-else-self-eq0-clause-done : goal.returns-else-self-eq0-clause-done
returns-else-self-eq0-clause-done c =
    let found = instruction-there c.requires.sequence c.requires.unfinished _ c.in-Return.is in
    executed-return c.args.spare c.requires.executed c.requires.point c.requires.unfinished
    found c.if-self-eq0.false (point_of c.leave.new.self) c.args.memory.now.octets c.leave.ensures.returned

pub invoke-requires-clause-there : goal.invoke-requires-clause-there
invoke-requires-clause-there c =
    let found = instruction-there c.requires.sequence c.requires.unfinished _ c.in-Call.is in
    let own : c.in-Call.index ≡ length (imported_functions c.args.program.now) + c.in-Some-checked_sub.number = omega (arith, c.requires.imported, c.in-Some-checked_sub.ensures) in
    own-there c.args.program.now c.requires.executed c.requires.point c.in-Call.index found c.in-Some-checked_sub.number own

pub invoke-requires-clause-operands : goal.invoke-requires-clause-operands
invoke-requires-clause-operands c =
    let found = instruction-there c.requires.sequence c.requires.unfinished _ c.in-Call.is in
    let own : c.in-Call.index ≡ length (imported_functions c.args.program.now) + c.in-Some-checked_sub.number = omega (arith, c.requires.imported, c.in-Some-checked_sub.ensures) in
    own-operands c.args.program.now c.requires.executed c.requires.point c.in-Call.index found c.in-Some-checked_sub.number own

pub invoke-requires-clause-awaiting : goal.invoke-requires-clause-awaiting
invoke-requires-clause-awaiting c =
    let found = instruction-there c.requires.sequence c.requires.unfinished _ c.in-Call.is in
    let own : c.in-Call.index ≡ length (imported_functions c.args.program.now) + c.in-Some-checked_sub.number = omega (arith, c.requires.imported, c.in-Some-checked_sub.ensures) in
    own-awaiting c.args.program.now c.requires.executed c.requires.point c.in-Call.index found c.in-Some-checked_sub.number own

pub invoke-requires-clause-locals : goal.invoke-requires-clause-locals
invoke-requires-clause-locals c =
    let found = instruction-there c.requires.sequence c.requires.unfinished _ c.in-Call.is in
    let own : c.in-Call.index ≡ length (imported_functions c.args.program.now) + c.in-Some-checked_sub.number = omega (arith, c.requires.imported, c.in-Some-checked_sub.ensures) in
    own-locals c.args.program.now c.requires.executed c.requires.point c.in-Call.index found c.in-Some-checked_sub.number own

pub call_host-requires-clause-imported : goal.call_host-requires-clause-imported
call_host-requires-clause-imported c = omega (arith, c.requires.imported, c.in-None-checked_sub.ensures)

pub call_host-requires-clause-calls : goal.call_host-requires-clause-calls
call_host-requires-clause-calls c = instruction-there c.requires.sequence c.requires.unfinished _ c.in-Call.is

pub returns-in-None-checked_sub-clause-done : goal.returns-in-None-checked_sub-clause-done
returns-in-None-checked_sub-clause-done c = c.call_host.ensures c.args.spare c.args.memory.now.octets

pub returns-in-Some-checked_sub-clause-done : goal.returns-in-Some-checked_sub-clause-done
returns-in-Some-checked_sub-clause-done c =
    let found = instruction-there c.requires.sequence c.requires.unfinished _ c.in-Call.is in
    let own : c.in-Call.index ≡ length (imported_functions c.args.program.now) + c.in-Some-checked_sub.number = omega (arith, c.requires.imported, c.in-Some-checked_sub.ensures) in
    done-call c.args.program.now c.requires.executed c.requires.point c.in-Call.index found c.in-Some-checked_sub.number own c.args.spare
    (point_of c.invoke.new.self) c.args.memory.now.octets c.invoke.ensures.point
