-- An `if` that only takes its operand, which is 0, against the configuration's step.
use Rattle.std.proofs.Common.{◌≡◌, ℕ, ◌+◌, ◌<◌, List, ◌∷◌, length, true, Option, None, Some, slice_get, is_some, refl, sym}
use Rattle.std.proofs.lemmas.Bool.{eqb-true}
use Rattle.qw_module.specs.declared.instruction.ValType.{ValType}
use Rattle.qw_module.specs.declared.instruction.Instr.TheVariants as i
use Rattle.qw_module.specs.declared.module.Module.{Module}
use Rattle.qw_machine.specs.declared.activity.Entry.{Entry}
use Rattle.qw_machine.specs.declared.room.Rooms.{Rooms}
use Rattle.qw_machine.specs.declared.stepped.Stepped.TheVariants as stepped
use Rattle.qw_module.specs.Start.{body_of}
use Rattle.qw_machine.specs.Inner.Points.{Point, instructions_at, at_index, entered}
use Rattle.qw_machine.specs.Inner.Placed.{IsExecuted, IsPoint}
use Rattle.qw_machine.specs.Inner.Activities.{IsDoneAt, has_no_else}
use Rattle.qw_machine.proofs.Around.{with_operands}
use Rattle.qw_machine.proofs.Controlled.{executed-without, executed-else}
use Rattle.qw_machine.proofs.Leaving.{done-left, left-label}

module _ {m : Module} {rooms : Rooms} (spare : ℕ) (executed : IsExecuted m) {p : Point} (is : IsPoint m rooms p)
    (inside : p.index < length (instructions_at m p.function p.sequence)) where
  -- an empty `else` is left as soon as it is entered
  executed-empty : (result : Option ValType) (inner other : ℕ) → slice_get (instructions_at m p.function p.sequence) p.index ≡ Some (i.If result inner (Some other)) →
      length (instructions_at m p.function other) ≡ 0 → (operands : List ℕ) (memory : List ℕ) → p.operands ≡ 0 ∷ operands →
      IsDoneAt m rooms spare p memory stepped.Ran (at_index (with_operands p operands) (p.index + 1)) memory
  executed-empty result inner other found empty operands memory popped =
      let entry : Entry = record { base = length operands; takes = is_some result; sequence = p.sequence; target = p.index + 1; after = p.index + 1 } in
      let q : Point = entered (with_operands p operands) other (is_some result) (p.index + 1) in
      let done = executed-else spare executed is inside result inner other found operands q memory popped refl in
      let left = left-label m rooms q entry p.awaiting (sym empty) refl done.0 in
      done-left m rooms spare p q (at_index (with_operands p operands) (p.index + 1)) memory memory done left.0 left.1

  -- it goes on after it
  pub executed-passed : (result : Option ValType) (inner : ℕ) (other : Option ℕ) → slice_get (instructions_at m p.function p.sequence) p.index ≡ Some (i.If result inner other) →
      has_no_else (body_of m p.function) other ≡ true → (operands : List ℕ) (memory : List ℕ) → p.operands ≡ 0 ∷ operands →
      IsDoneAt m rooms spare p memory stepped.Ran (at_index (with_operands p operands) (p.index + 1)) memory
  executed-passed result inner None found passes operands memory popped =
      executed-without spare executed is inside result inner found operands (at_index (with_operands p operands) (p.index + 1)) memory popped refl
  executed-passed result inner (Some other) found passes operands memory popped =
      executed-empty result inner other found (eqb-true (length (instructions_at m p.function other)) 0 passes) operands memory popped
