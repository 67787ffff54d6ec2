-- Blocks that are entered and left where what a point holds is held apart from it.
use Rattle.std.proofs.Common.{◌≡◌, ◌≢◌, ℕ, ◌+◌, ◌^◌, ◌<◌, ◌≤◌, Bool, true, false, List, [], ◌∷◌, length, drop, Option, None, Some, IfSome, is_some, slice_get, get_or, Vec, vec_len, Global, refl, sym, ap, subst, ◌∙◌, arith}
use Rattle.qw_module.specs.declared.instruction.ValType.{ValType}
use Rattle.qw_module.specs.declared.instruction.Instr.{Instr}
use Rattle.qw_module.specs.declared.instruction.Instr.TheVariants as i
use Rattle.qw_module.specs.declared.instruction.Op.{Op}
use Rattle.qw_module.specs.declared.module.Module.{Module}
use Rattle.qw_module.specs.declared.module.Body.{Body}
use Rattle.qw_machine.specs.declared.activity.Entry.{Entry}
use Rattle.qw_machine.specs.declared.activity.Awaiting.{Awaiting}
use Rattle.qw_machine.specs.declared.activity.Awaiting.TheVariants.{Label}
use Rattle.qw_machine.specs.declared.blocks.Moved.{Moved}
use Rattle.qw_machine.specs.declared.operators.Operated.{Operated}
use Rattle.qw_machine.specs.declared.room.Rooms.{Rooms}
use Rattle.qw_machine.specs.declared.stepped.Run.{Run}
use Rattle.qw_machine.specs.declared.stepped.Stepped.{Stepped}
use Rattle.qw_machine.specs.declared.stepped.Stepped.TheVariants.{Ran}
use Rattle.qw_module.specs.Start.{body_of}
use Rattle.qw_module.specs.Step.{op_wants}
use Rattle.qw_module.specs.Syntax.{Sequences, sequence_at}
use Rattle.qw_module.specs.Validity.{sequences_of}
use Rattle.qw_machine.specs.Inner.Activities.{IsDoneAt, IsHalted, IsPlaced, has_no_else}
use Rattle.qw_machine.specs.Inner.Ended.{answer_of}
use Rattle.qw_machine.specs.Inner.Operated.{CanOperate, Held, IsDone}
use Rattle.qw_machine.specs.Inner.Placed.{IsExecuted, IsPoint, IsRunning}
use Rattle.qw_machine.specs.Inner.Points.{Point, in_sequence, instructions_at, placed, state_at, with_held}
use Rattle.qw_machine.specs.Inner.Stacked.{Stacked}
use Rattle.qw_machine.proofs.Around.{operand-room}
use Rattle.qw_machine.proofs.Arrays.{instruction-there}
use Rattle.qw_machine.proofs.Controlled.{executed-block, executed-loop, br_if-operand, executed-br_if-not, if-operand, executed-if, executed-else, executed-without}
use Rattle.qw_machine.proofs.Followed.{held-ready, held-done, held-own}
use Rattle.qw_machine.proofs.Leaving.{left-label}
use Rattle.qw_machine.proofs.Passed.{executed-passed}
use Rattle.qw_machine.proofs.Reading.{array-there, array-read, sequence-small}
use Rattle.qw_machine.proofs.Runs.{run-within}

-- with a further label around
abbrev pub labelled : Stacked Awaiting → (base : ℕ) (takes : Bool) (sequence target after : ℕ) → Stacked Awaiting
labelled awaiting base takes sequence target after =
    record { values = Label (record { base = base; takes = takes; sequence = sequence; target = target; after = after }) ∷ awaiting.values; room = awaiting.room }

-- a label was pushed, and the beginning of a sequence is next
pub record IsInside (awaiting : Stacked Awaiting) (base : ℕ) (takes : Bool) (sequence target after inner : ℕ) (pushed : Stacked Awaiting) (begun : Moved) : Type 0 where
  pub labelled_is : pushed ≡ labelled awaiting base takes sequence target after
  pub begins : begun ≡ record { number = inner; index = 0; done = Ran }

pub placed-room : {m : Module} {rooms : Rooms} {p : Point} {awaiting : Stacked Awaiting} {number index : ℕ} {operands : Stacked ℕ} {globals locals : List ℕ} →
    IsPlaced m rooms p awaiting number index operands globals locals → length operands.values < operands.room
placed-room start = omega (arith, operand-room start.running.point start.running.unfinished, start.operands_room)

module _ {m : Module} {rooms : Rooms} {p : Point} {awaiting : Stacked Awaiting} {number index : ℕ} {operands : Stacked ℕ} {globals locals : List ℕ}
    (start : IsPlaced m rooms p awaiting number index operands globals locals) (sequence : List Instr) (same : sequence ≡ instructions_at m p.function number)
    (spare : ℕ) (default : Instr) where
  abbrev here : Point
  here = placed p awaiting number index operands globals locals

  found : (instruction : Instr) → get_or sequence index default ≡ instruction → slice_get (instructions_at m p.function number) index ≡ Some instruction
  found instruction read = instruction-there same start.running.unfinished default read

  -- ---- an operator
  module _ (operator : Op) (read : get_or sequence index default ≡ i.Op operator) where
    pub placed-ready : CanOperate operator globals operands.values locals
    placed-ready =
        held-ready m rooms (in_sequence p awaiting.values number index) start.first_in index operands.values globals locals start.running.point operator (found (i.Op operator) read) spare

    pub placed-operator : (memory : List ℕ) (answer : Operated) (after : Held) →
        IsDone (op_wants operator globals operands.values locals) (record { operands = operands.values; globals = globals; locals = locals; memory = memory }) spare answer after →
        (room : ℕ) →
        IsDoneAt m rooms spare here memory (answer_of answer)
        (placed p awaiting number (index + 1) (record { values = after.operands; room = room }) after.globals after.locals) after.memory
    placed-operator memory answer after done room =
        held-done m rooms (in_sequence p awaiting.values number index) start.first_in index operands.values globals locals start.running.point operator (found (i.Op operator) read) spare
        memory answer after done

  -- ---- blocks
  module _ (base : ℕ) (takes : Bool) (pushed : Stacked Awaiting) (begun : Moved) (memory : List ℕ) where
    pub placed-block : (result : Option ValType) (inner : ℕ) → get_or sequence index default ≡ i.Block result inner → base ≡ length operands.values → takes ≡ is_some result →
        IsInside awaiting base takes number (index + 1) (index + 1) inner pushed begun →
        IsDoneAt m rooms spare here memory begun.done (placed p pushed begun.number begun.index operands globals locals) memory
    placed-block result inner read base_is takes_are inside =
        rw (inside.labelled_is, inside.begins, base_is, takes_are)
        (executed-block spare start.executed start.running.point start.running.unfinished result inner (found (i.Block result inner) read)
        (placed p (labelled awaiting (length operands.values) (is_some result) number (index + 1) (index + 1)) inner 0 operands globals locals) memory refl)

    pub placed-loop : (result : Option ValType) (inner : ℕ) → get_or sequence index default ≡ i.Loop result inner → base ≡ length operands.values →
        IsInside awaiting base false number index (index + 1) inner pushed begun →
        IsDoneAt m rooms spare here memory begun.done (placed p pushed begun.number begun.index operands globals locals) memory
    placed-loop result inner read base_is inside =
        rw (inside.labelled_is, inside.begins, base_is)
        (executed-loop spare start.executed start.running.point start.running.unfinished result inner (found (i.Loop result inner) read)
        (placed p (labelled awaiting (length operands.values) false number index (index + 1)) inner 0 operands globals locals) memory refl)

  -- ---- br_if
  module _ (label : ℕ) (read : get_or sequence index default ≡ i.BrIf label) where
    pub placed-condition : 0 < length operands.values
    placed-condition = br_if-operand spare start.executed start.running.point start.running.unfinished label (found (i.BrIf label) read)

    pub placed-on : (left : Stacked ℕ) (memory : List ℕ) → operands.values ≡ 0 ∷ left.values →
        IsDoneAt m rooms spare here memory Ran (placed p awaiting number (index + 1) left globals locals) memory
    placed-on left memory popped =
        executed-br_if-not spare start.executed start.running.point start.running.unfinished label (found (i.BrIf label) read) left.values
        (placed p awaiting number (index + 1) left globals locals) memory popped refl

  -- ---- if
  module _ (result : Option ValType) (inner : ℕ) (other : Option ℕ) (read : get_or sequence index default ≡ i.If result inner other) where
    pub placed-operand : 0 < length operands.values
    placed-operand = if-operand spare start.executed start.running.point start.running.unfinished result inner other (found (i.If result inner other) read)

    pub placed-without : (left : Stacked ℕ) (memory : List ℕ) → operands.values ≡ 0 ∷ left.values → other ≡ None →
        IsDoneAt m rooms spare here memory Ran (placed p awaiting number (index + 1) left globals locals) memory
    placed-without left memory popped there =
        executed-without spare start.executed start.running.point start.running.unfinished result inner
        (found (i.If result inner other) read ∙ ap (λ (x : Option ℕ). Some (i.If result inner x)) there) left.values _ memory popped refl

    module _ (body base : ℕ) (takes : Bool) (pushed : Stacked Awaiting) (begun : Moved) (left : Stacked ℕ) (memory : List ℕ) (base_is : base ≡ length left.values)
        (takes_are : takes ≡ is_some result) (inside : IsInside awaiting base takes number (index + 1) (index + 1) body pushed begun) where
      pub placed-if : (n : ℕ) → operands.values ≡ n ∷ left.values → n ≢ 0 → body ≡ inner →
          IsDoneAt m rooms spare here memory begun.done (placed p pushed begun.number begun.index left globals locals) memory
      placed-if n popped other_than chosen =
          rw (inside.labelled_is, inside.begins, base_is, takes_are, chosen)
          (executed-if spare start.executed start.running.point start.running.unfinished result inner other (found (i.If result inner other) read) n left.values
          (placed p (labelled awaiting (length left.values) (is_some result) number (index + 1) (index + 1)) inner 0 left globals locals) memory popped other_than refl)

      pub placed-else : operands.values ≡ 0 ∷ left.values → other ≡ Some body →
          IsDoneAt m rooms spare here memory begun.done (placed p pushed begun.number begun.index left globals locals) memory
      placed-else popped there =
          rw (inside.labelled_is, inside.begins, base_is, takes_are)
          (executed-else spare start.executed start.running.point start.running.unfinished result inner body
          (found (i.If result inner other) read ∙ ap (λ (x : Option ℕ). Some (i.If result inner x)) there) left.values
          (placed p (labelled awaiting (length left.values) (is_some result) number (index + 1) (index + 1)) body 0 left globals locals) memory popped refl)

    -- so the sequence that is chosen is one of the body
    abbrev inside : ℕ → (left : Stacked ℕ) → Point
    inside body left = placed p (labelled awaiting (length left.values) (is_some result) number (index + 1) (index + 1)) body 0 left globals locals

    pub point-if : (body n : ℕ) (left : Stacked ℕ) → operands.values ≡ n ∷ left.values → n ≢ 0 → body ≡ inner → IsPoint m rooms (inside body left)
    point-if body n left popped other_than chosen =
        (placed-if body (length left.values) (is_some result) (labelled awaiting (length left.values) (is_some result) number (index + 1) (index + 1))
        (record { number = body; index = 0; done = Ran }) left [] refl refl (record { labelled_is = refl; begins = refl }) n popped other_than chosen).0

    pub point-else : (body : ℕ) (left : Stacked ℕ) → operands.values ≡ 0 ∷ left.values → other ≡ Some body → IsPoint m rooms (inside body left)
    point-else body left popped there =
        (placed-else body (length left.values) (is_some result) (labelled awaiting (length left.values) (is_some result) number (index + 1) (index + 1))
        (record { number = body; index = 0; done = Ran }) left [] refl refl (record { labelled_is = refl; begins = refl }) popped there).0

    -- nothing is chosen: it only takes its operand
    pub placed-passed : (left : Stacked ℕ) (memory : List ℕ) → operands.values ≡ 0 ∷ left.values → (sequences : Sequences) → sequences ≡ body_of m p.function →
        has_no_else sequences other ≡ true → IsDoneAt m rooms spare here memory Ran (placed p awaiting number (index + 1) left globals locals) memory
    placed-passed left memory popped sequences same_body passes =
        executed-passed spare start.executed start.running.point start.running.unfinished result inner other (found (i.If result inner other) read)
        (subst (λ (s : Sequences). has_no_else s other ≡ true) same_body passes) left.values memory popped

-- ---- labels whose sequences are finished are left
module _ (m : Module) (rooms : Rooms) (p : Point) (body : Body) (same : sequences_of body ≡ body_of m p.function) (awaiting : List Awaiting) (number index : ℕ)
    (is : IsPoint m rooms (in_sequence p awaiting number index)) where
  pub array-inner : number < length (sequences_of body).each
  array-inner = subst (λ (s : Sequences). number < length s.each) (sym same) is.room.numbered

  pub in-array : number < vec_len body.sequences
  in-array = omega (arith, array-there body number array-inner, body.sequences.ok.0)

  pub slice-read : (array : Vec Instr Global) (sequence : List Instr) → array ≡ get_or body.sequences.items number array → sequence ≡ array.items →
      sequence ≡ sequence_at (sequences_of body) number
  slice-read array sequence read sliced = sliced ∙ sym (array-read body number array array-inner read)

  pub index-small : index < 2 ^ 63
  index-small =
      let within : index ≤ length (sequence_at (sequences_of body) number) = subst (λ (s : Sequences). index ≤ length (sequence_at s number)) (sym same) is.index_in in
      omega (arith, within, sequence-small body number)

  module _ (sequence : List Instr) (sequence_is : sequence ≡ sequence_at (sequences_of body) number) where
    pub slice-instructions : sequence ≡ instructions_at m p.function number
    slice-instructions = sequence_is ∙ ap (λ (s : Sequences). sequence_at s number) same

    pub more-left : index ≢ length sequence → index < length sequence
    more-left apart =
        let within : index ≤ length sequence = subst (λ (xs : List Instr). index ≤ length xs) (sym slice-instructions) is.index_in in
        omega arith

    pub label-left : index ≡ length sequence → (entry : Entry) (rest : List Awaiting) → awaiting ≡ Label entry ∷ rest →
        IsPoint m rooms (in_sequence p rest entry.sequence entry.after)
        × (state_at m (in_sequence p awaiting number index) ≡ state_at m (in_sequence p rest entry.sequence entry.after))
    label-left ended entry rest popped =
        left-label m rooms (in_sequence p awaiting number index) entry rest (ended ∙ ap length slice-instructions) popped is

-- ---- the sequence of an `else` is there
module _ {m : Module} {rooms : Rooms} {p : Point} {awaiting : Stacked Awaiting} {number index : ℕ} {operands : Stacked ℕ} {globals locals : List ℕ}
    (start : IsPlaced m rooms p awaiting number index operands globals locals) (sequence : List Instr) (same : sequence ≡ instructions_at m p.function number)
    (default : Instr) (result : Option ValType) (inner : ℕ) (body : Body) (same_body : sequences_of body ≡ body_of m p.function)
    (left : Stacked ℕ) (popped : operands.values ≡ 0 ∷ left.values) where
  pub else-there : (other : Option ℕ) → get_or sequence index default ≡ i.If result inner other → IfSome other (λ (n : ℕ). n < vec_len body.sequences)
  else-there None read = tt
  else-there (Some other) read =
      in-array m rooms (with_held p 0 left.values globals locals) body same_body _ other 0 (point-else start sequence same 0 default result inner (Some other) read other left popped refl)

-- ---- an instruction executed, and the labels left that it finished
abbrev pub held : Point → (operands : Stacked ℕ) → (globals locals : List ℕ) → Point
held p operands globals locals = with_held p 0 operands.values globals locals

-- ---- where a point runs, what it holds may be held apart
pub placed-here : (m : Module) (rooms : Rooms) (p : Point) (awaiting : Stacked Awaiting) (operands : Stacked ℕ) (globals locals : List ℕ) → IsExecuted m → IsRunning m rooms p →
    awaiting.values ≡ p.awaiting → rooms.awaiting ≡ awaiting.room → operands.values ≡ p.operands → rooms.operands ≡ operands.room →
    globals ≡ p.globals → locals ≡ drop p.first_local p.locals → IsPlaced m rooms p awaiting p.sequence p.index operands globals locals
placed-here m rooms p awaiting operands globals locals executed running awaiting_are awaiting_room operands_are operands_room globals_are locals_are = record {
  executed = executed;
  first_in = running.point.first_in;
  operands_room = operands_room;
  awaiting_room = awaiting_room;
  running = rw (awaiting_are, operands_are, globals_are, locals_are, held-own p) running;
}

pub halted-held : (m : Module) (rooms : Rooms) (p : Point) (globals locals : List ℕ) (spare most : ℕ) (memory : List ℕ) (run : Run) (ended : Option Stepped) (q : Point) (after : List ℕ) →
    globals ≡ p.globals → locals ≡ drop p.first_local p.locals →
    IsHalted m rooms spare most (with_held p p.index p.operands globals locals) memory run ended q after → IsHalted m rooms spare most p memory run ended q after
halted-held m rooms p globals locals spare most memory run ended q after globals_are locals_are is =
    let same : with_held p p.index p.operands globals locals ≡ p = rw (globals_are, locals_are) (held-own p) in
    subst (λ (x : Point). IsHalted m rooms spare most x memory run ended q after) same is

-- at most so many steps are at most more
pub halted-within : (m : Module) (rooms : Rooms) (spare few most : ℕ) (p : Point) (memory : List ℕ) (run : Run) (ended : Option Stepped) (q : Point) (after : List ℕ) → few ≤ most →
    IsHalted m rooms spare few p memory run ended q after → IsHalted m rooms spare most p memory run ended q after
halted-within m rooms spare few most p memory run None q after fits is = run-within m rooms spare few most p q memory after run fits is
halted-within m rooms spare few most p memory run (Some answer) q after fits is =
    (is.0, is.1, is.2, run-within m rooms spare few most p is.1 memory is.2 run fits is.3, is.4)
