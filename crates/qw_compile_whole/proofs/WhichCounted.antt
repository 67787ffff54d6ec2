-- Which statements count the rows that go into groups: those of three entries of FROM or more, with set functions.
use Rattle.std.proofs.Common.{◌≡◌, ◌∙◌, ◌≤◌, ℕ, ◌&&◌, nat_le, if◌then◌else◌, Bool, true, false, Option, Some, None, refl, sym, ap, ⊎_elim, arith}
use Rattle.std.proofs.lemmas.Bool.{cases_lt, le-leb}
use Rattle.std.proofs.lemmas.Option.{same_Some}
use Rattle.qw_compile_whole.specs.GuardedStatements.{guard_for}

by_test : (b : Bool) (z : ℕ) → (let r : Option ℕ = if b then Some 4 else None in r) ≡ Some z → z ≡ 4
by_test true z e = sym (same_Some 4 z e)
by_test false z e = absurd cc

pub counted_there : (tables functions z : ℕ) → guard_for tables functions ≡ Some z → guard_for tables functions ≡ Some 4
counted_there t f z e = e ∙ ap (λ (x : ℕ). Some x) (by_test (nat_le 3 t && nat_le 1 f) z e)

pub uncounted_few : (tables functions : ℕ) → guard_for tables functions ≡ None → 1 ≤ functions → tables ≤ 2
uncounted_few t f none some = ⊎_elim
    (λ three.
    let counted : guard_for t f ≡ Some 4 = rw (le-leb 3 t (omega (arith, three)), le-leb 1 f some) refl in
    absurd (differ (sym counted ∙ none)))
    (λ few. few)
    (cases_lt 2 t)
  where
    differ : (let some : Option ℕ = Some 4 in some) ≡ None → ⊥
    differ e = absurd cc

-- without set functions none
pub without_functions : (tables : ℕ) → guard_for tables 0 ≡ None
without_functions tables = none (nat_le 3 tables)
  where
    none : (b : Bool) → (let r : Option ℕ = if b && nat_le 1 0 then Some 4 else None in r) ≡ None
    none true = refl
    none false = refl
