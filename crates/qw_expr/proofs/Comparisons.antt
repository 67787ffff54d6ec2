-- What comparisons come to.
use Rattle.std.proofs.Common.{◌≡◌, ℕ, ℤ, ◌+◌, ◌*◌, ◌<◌, ◌≤◌, Ordering, Bool, true, false, length, Option, Some, Ok, slice_get, arith}
use Rattle.qw_types.specs.declared.truth.Truth.{Truth}
use Rattle.qw_scalar.specs.declared.comparison.Comparison.{Comparison}
use Rattle.qw_scalar.specs.Evaluation.{answers, truth_if}
use Rattle.qw_module.specs.Numbers.{truth}
use Rattle.qw_low.specs.declared.cell.Cell.{Cell}
use Rattle.qw_low.specs.Syntax.{Statement, skip}
use Rattle.qw_low.specs.State.{Number, LowState}
use Rattle.qw_low.specs.Meaning.{meaning}
use Rattle.qw_low.specs.Size.{size}
use Rattle.qw_low.specs.Raising.{Kept}
use Rattle.qw_low.specs.Held.{SaysValue}
use Rattle.qw_low.proofs.Results.{Kept-then, at_least, Comes}
use Rattle.qw_low.proofs.Promises.{Ends-weaker}
use Rattle.qw_wide.specs.Numbers.{HasNumber, Tests}
use Rattle.qw_wide.proofs.ArithmeticRuns.{held_kept}
use Rattle.qw_expr.specs.declared.operand.Operand.{Operand}
use Rattle.qw_expr.specs.Cells.{HoldsTruth, IsBelow, IsBelowNull}
use Rattle.qw_expr.specs.Inner.Nulls.{joined_null}
use Rattle.qw_expr.proofs.Nulls.{value_says}
use Rattle.qw_expr.proofs.Unknowns.{null_low}

-- a truth in a local, that a value's null word goes with
pub truth_held : (c : Cell) (g : Bool) (s : LowState) → slice_get s.locals c.value ≡ Some (Number (truth g)) → SaysValue s c.null → HoldsTruth c (truth_if g) s
truth_held c true s is says = (is, says)
truth_held c false s is says = (is, says)

module _ (most fuel N : ℕ) (some : 1 ≤ N) (u : LowState) (m : ℕ) (oa ob : Operand) (low_a : IsBelow m oa.cell) (low_b : IsBelow m ob.cell) (room : m + 2 < length u.locals)
    (o : Comparison) (order : ℤ → ℤ → Ordering) (f : Statement) (ma mb : ℕ) (tests : Tests o order oa.cell.value ma ob.cell.value mb (m + 2) (m + 1) f) where
  abbrev null : Option ℕ
  null = joined_null m oa.cell.null ob.cell.null

  abbrev cell : Cell
  cell = record { value = m + 1; length = m + 1; null = null }

  abbrev Post : Truth → LowState → Type 0
  Post v t = Kept m u t × HoldsTruth cell v t

  low_null : IsBelowNull (m + 1) null
  low_null = null_low most fuel N some u m oa ob low_a low_b (omega (arith, room)) skip

  -- two numbers, tested
  pub ordered : (a b : ℤ) → HasNumber oa.cell.value ma a u → HasNumber ob.cell.value mb b u → (t : LowState) → Kept m u t → SaysValue t null → Comes most fuel N Post (Ok (truth_if (answers o (order a b)))) f t
  ordered a b has_a has_b t kept says =
      let g : Bool = answers o (order a b) in
      Ends-weaker (size f) (size f * N) (λ q. Kept (m + 1) t q × (slice_get q.locals (m + 1) ≡ Some (Number (truth g)))) (Post (truth_if g)) (λ q. ⊥) (λ q. ⊥) (λ code. ⊥) (λ code. ⊥) (meaning most fuel f t) (at_least (size f) N some)
      (λ q left. (Kept-then m (m + 1) u t q (omega arith) kept left.0, truth_held cell g q left.1 (value_says (m + 1) t q null left.0 low_null says))) (λ q h. h) (λ code h. h)
      (tests.runs most fuel t a b (held_kept m u t oa.cell.value a kept low_a.0 has_a.0, has_a.1, has_a.2) (held_kept m u t ob.cell.value b kept low_b.0 has_b.0, has_b.1, has_b.2) (omega (arith, room, kept.many)))
