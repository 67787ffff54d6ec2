-- How much room functions need: that a function called needs no more than its caller reserves.
use Rattle.std.proofs.Common.{◌≡◌, ℕ, zero, suc, ◌+◌, ◌<◌, ◌≤◌, List, length, get_or, drop, replicate, ◌++◌, ap, sym, subst, ◌∙◌, ⊎_elim, arith, append_assoc, length-append}
use Rattle.std.proofs.lemmas.Bool.{cases_eq}
use Rattle.std.proofs.lemmas.List.{at_drop_more, length-replicate, replicate-append-replicate}
use Rattle.qw_module.specs.declared.module.Locals.{Locals}
use Rattle.qw_module.specs.declared.module.Module.{Module}
use Rattle.qw_module.specs.Validity.{declared_types}
use Rattle.qw_valid.specs.declared.heights.Heights.{Heights}
use Rattle.qw_machine.specs.declared.room.Rooms.{Rooms}
use Rattle.qw_machine.specs.Inner.Rooms.{needed_below}

-- what one of the functions below a number needs, with those below it
pub record IsWithin (one all : Rooms) : Type 0 where
  pub operands : one.operands ≤ all.operands
  pub awaiting : one.awaiting ≤ all.awaiting
  pub locals : one.locals ≤ all.locals

pub needed_below-mono : (m : Module) (heights : List Heights) (g f : ℕ) → g < f → IsWithin (needed_below m heights (suc g)) (needed_below m heights f)
needed_below-mono m heights g zero h = absurd (omega arith)
needed_below-mono m heights g (suc f) h = ⊎_elim
    (λ (e : g ≡ f). subst (λ (k : ℕ). IsWithin (needed_below m heights (suc k)) (needed_below m heights (suc f))) (sym e)
    (record { operands = omega arith; awaiting = omega arith; locals = omega arith }))
    (λ ne. let less : g < f = omega arith in
    let before = needed_below-mono m heights g f less in
    record {
      operands = omega (arith, before.operands);
      awaiting = omega (arith, before.awaiting);
      locals = omega (arith, before.locals);
    })
    (cases_eq g f)

-- the locals that the runs from one on declare
declared-more : (runs : List Locals) (i : ℕ) (d : Locals) → i < length runs →
    length (declared_types (drop i runs)) ≡ (get_or runs i d).count + length (declared_types (drop (i + 1) runs))
declared-more runs i d inside =
    let run : Locals = get_or runs i d in
    at_drop_more (λ (rest : List Locals). length (declared_types rest)) runs i d inside
    ∙ omega (arith, length-append (replicate run.count run.ty) (declared_types (drop (i + 1) runs)), length-replicate run.count run.ty)

-- one run's locals are added
pub declared-on : (runs : List Locals) (i : ℕ) (d : Locals) (before after all : List ℕ) (count : ℕ) → i < length runs →
    before ++ replicate (length (declared_types (drop i runs))) 0 ≡ all → after ≡ before ++ replicate count 0 →
    (get_or runs i d).count ≤ count → count ≤ (get_or runs i d).count →
    after ++ replicate (length (declared_types (drop (i + 1) runs))) 0 ≡ all
declared-on runs i d before after all count inside are added least most =
    let rest : ℕ = length (declared_types (drop (i + 1) runs)) in
    let many : count + rest ≡ length (declared_types (drop i runs)) = omega (arith, least, most, declared-more runs i d inside) in
    rw (added, append_assoc before (replicate count 0) (replicate rest 0), replicate-append-replicate {A = ℕ} count rest 0, many) are

-- there is room for one more
pub declared-room : (runs : List Locals) (i : ℕ) (d : Locals) (before after first : List ℕ) (count capacity : ℕ) → i < length runs →
    before ++ replicate (length (declared_types (drop i runs))) 0 ≡ first ++ replicate (length (declared_types runs)) 0 → after ≡ before ++ replicate count 0 →
    count < (get_or runs i d).count → length first + length (declared_types runs) ≤ capacity → length after < capacity
declared-room runs i d before after first count capacity inside are added more room =
    let here : ℕ = length (declared_types (drop i runs)) in
    let all : ℕ = length (declared_types runs) in
    omega (
      arith,
      ap length are,
      length-append before (replicate here 0),
      length-replicate {A = ℕ} here 0,
      length-append first (replicate all 0),
      length-replicate {A = ℕ} all 0,
      ap length added,
      length-append before (replicate count 0),
      length-replicate {A = ℕ} count 0,
      declared-more runs i d inside,
    )
