-- Operators that follow one another: what they work on is held apart from the point.
use Rattle.std.proofs.Common.{◌≡◌, ℕ, ◌+◌, ◌<◌, ◌≤◌, List, ◌++◌, length, take, drop, Some, slice_get, get_or, refl, sym, ap, subst, ◌∙◌}
use Rattle.std.proofs.lemmas.List.{take-append-drop}
use Rattle.std.proofs.lemmas.Option.{slice_get-get_or}
use Rattle.qw_module.specs.declared.instruction.Instr.{Instr}
use Rattle.qw_module.specs.declared.instruction.Instr.TheVariants as i
use Rattle.qw_module.specs.declared.instruction.Op.{Op}
use Rattle.qw_module.specs.declared.module.Module.{Module}
use Rattle.qw_machine.specs.declared.operators.Operated.{Operated}
use Rattle.qw_machine.specs.declared.room.Rooms.{Rooms}
use Rattle.qw_machine.specs.declared.stepped.Stepped.TheVariants.{Ran}
use Rattle.qw_module.specs.Step.{op_wants}
use Rattle.qw_machine.specs.Inner.Activities.{IsDoneAt, IsFollowed, IsRun}
use Rattle.qw_machine.specs.Inner.Ended.{answer_of}
use Rattle.qw_machine.specs.Inner.Operated.{CanOperate, Held, IsDone}
use Rattle.qw_machine.specs.Inner.Placed.{IsPoint}
use Rattle.qw_machine.specs.Inner.Points.{Point, instructions_at, with_held}
use Rattle.qw_machine.proofs.ListFacts.{take-front, drop-front}
use Rattle.qw_machine.proofs.Operated.{operator-ready, executed-operator}
use Rattle.qw_machine.proofs.Runs.{run-operator}

module _ (m : Module) (rooms : Rooms) (p : Point) (first_in : p.first_local ≤ length p.locals) (index : ℕ) (operands globals locals : List ℕ)
    (is : IsPoint m rooms (with_held p index operands globals locals)) (operator : Op)
    (found : slice_get (instructions_at m p.function p.sequence) index ≡ Some (i.Op operator)) (spare : ℕ) where
  own : drop p.first_local (take p.first_local p.locals ++ locals) ≡ locals
  own = drop-front p.first_local p.locals locals first_in

  outer : take p.first_local (take p.first_local p.locals ++ locals) ≡ take p.first_local p.locals
  outer = take-front p.first_local p.locals locals first_in

  pub held-ready : CanOperate operator globals operands locals
  held-ready = subst (λ (xs : List ℕ). CanOperate operator globals operands xs) own (operator-ready spare is found)

  -- an operator done is a step
  pub held-done : (memory : List ℕ) (answer : Operated) (after : Held) →
      IsDone (op_wants operator globals operands locals) (record { operands = operands; globals = globals; locals = locals; memory = memory }) spare answer after →
      IsDoneAt m rooms spare (with_held p index operands globals locals) memory (answer_of answer) (with_held p (index + 1) after.operands after.globals after.locals) after.memory
  held-done memory answer after done =
      let at : List ℕ → Point = λ xs. record p { index = index + 1; operands = after.operands; locals = xs ++ after.locals; globals = after.globals } in
      executed-operator spare is found memory answer after
      (subst (λ (xs : List ℕ). IsDone (op_wants operator globals operands xs) (record { operands = operands; globals = globals; locals = xs; memory = memory }) spare answer after) (sym own) done)
      (answer_of answer) (with_held p (index + 1) after.operands after.globals after.locals) refl (ap at (sym outer))

-- after so many of them, another one
module _ (m : Module) (rooms : Rooms) (p : Point) (sequence : List Instr) (first room : ℕ) (operands globals locals : List ℕ)
    (start : IsFollowed m rooms sequence p first room operands globals locals) (spare most steps : ℕ) (memory : List ℕ) (index : ℕ) (now : Held)
    (run : IsRun m rooms spare most (with_held p first operands globals locals) memory (record { steps = steps; last = Ran }) (with_held p index now.operands now.globals now.locals) now.memory) where
  pub followed-inside : index < length sequence
  followed-inside = subst (λ (xs : List Instr). index < length xs) start.instructions run.running.unfinished

  pub followed-found : (default : Instr) → slice_get (instructions_at m p.function p.sequence) index ≡ Some (get_or sequence index default)
  followed-found default = rw start.instructions (slice_get-get_or sequence index default followed-inside)

  module _ (operator : Op) (default : Instr) (read : get_or sequence index default ≡ i.Op operator) where
    found : slice_get (instructions_at m p.function p.sequence) index ≡ Some (i.Op operator)
    found = followed-found default ∙ ap (λ (x : Instr). Some x) read

    pub followed-ready : CanOperate operator now.globals now.operands now.locals
    followed-ready = held-ready m rooms p start.first_in index now.operands now.globals now.locals run.running.point operator found spare

    pub followed-next : (answer : Operated) (after : Held) → IsDone (op_wants operator now.globals now.operands now.locals) now spare answer after →
        index + 1 < length sequence → (next : ℕ) → next ≡ steps + 1 → steps + 1 ≤ most →
        IsRun m rooms spare most (with_held p first operands globals locals) memory (record { steps = next; last = answer_of answer })
        (with_held p (index + 1) after.operands after.globals after.locals) after.memory
    followed-next answer after done inside next counted fits =
        run-operator m rooms spare most (with_held p first operands globals locals) memory steps next
        (with_held p index now.operands now.globals now.locals) (with_held p (index + 1) after.operands after.globals after.locals) now.memory after.memory (answer_of answer) run
        (held-done m rooms p start.first_in index now.operands now.globals now.locals run.running.point operator found spare now.memory answer after done)
        (rw start.instructions inside) counted fits

-- a point with what it holds is itself
pub held-own : (p : Point) → with_held p p.index p.operands p.globals (drop p.first_local p.locals) ≡ p
held-own p = ap (λ (xs : List ℕ). record p { locals = xs }) (take-append-drop p.first_local p.locals)
