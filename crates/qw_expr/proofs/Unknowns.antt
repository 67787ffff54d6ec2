-- Comparisons of two values, which are unknown where one is null.
use Rattle.std.proofs.Common.{◌≡◌, ℕ, ◌+◌, ◌<◌, ◌≤◌, ◌||◌, Bool, true, false, length, Option, Some, None, Result, Ok, slice_set, refl, sym, ◌∙◌, subst, ⊎_elim, inl, inr, ◌⊎◌, arith}
use Rattle.qw_types.specs.declared.code.Code.{Code}
use Rattle.qw_types.specs.declared.truth.Truth.{Truth}
use Rattle.qw_types.specs.declared.truth.Truth.TheVariants.{Unknown}
use Rattle.qw_types.specs.declared.value.Val.{Val}
use Rattle.qw_types.specs.declared.value.Val.TheVariants as val
use Rattle.qw_map.proofs.TurnFacts.{slice_get-set_same}
use Rattle.qw_low.specs.declared.cell.Cell.{Cell}
use Rattle.qw_low.specs.Syntax.{Statement, local, seq, assign}
use Rattle.qw_low.specs.State.{Number, LowState}
use Rattle.qw_low.specs.Raising.{Kept}
use Rattle.qw_low.specs.Held.{SaysNull, SaysValue}
use Rattle.qw_low.proofs.Results.{Kept-set, Kept-one, Comes, comes_then, comes_assign, comes_choose}
use Rattle.qw_expr.specs.declared.operand.Operand.{Operand}
use Rattle.qw_expr.specs.Cells.{HoldsValue, HoldsTruth, Holds, IsBelow, IsBelowNull}
use Rattle.qw_expr.specs.Inner.Nulls.{join_block, joined_null}
use Rattle.qw_expr.specs.Inner.Truths.{i32, zero_if_null}
use Rattle.qw_expr.proofs.Nulls.{Says, joins}

-- ---- null operands
pub null_or_not : (x : Val) → (x ≡ val.Null) ⊎ (x ≡ val.Null → ⊥)
null_or_not val.Null = inl refl
null_or_not (val.Num v) = inr (λ e. absurd cc)
null_or_not (val.Date d) = inr (λ e. absurd cc)
null_or_not (val.Text t) = inr (λ e. absurd cc)

pub null_says : (c : Cell) (x : Val) (s : LowState) → x ≡ val.Null → HoldsValue c x s → SaysNull s c.null
null_says c x s is holds = subst (λ y. HoldsValue c y s) is holds

pub other_says : (c : Cell) (x : Val) (s : LowState) → (x ≡ val.Null → ⊥) → HoldsValue c x s → SaysValue s c.null
other_says c val.Null s other holds = absurd (other refl)
other_says c (val.Num v) s other holds = holds.2
other_says c (val.Date d) s other holds = holds.1
other_says c (val.Text t) s other holds = holds.1

module _ (most fuel N : ℕ) (some : 1 ≤ N) (u : LowState) (m : ℕ) (oa ob : Operand) (low_a : IsBelow m oa.cell) (low_b : IsBelow m ob.cell) (room : m + 1 < length u.locals) (body : Statement) where
  abbrev pub null : Option ℕ
  null = joined_null m oa.cell.null ob.cell.null

  abbrev pub truth_cell : Cell
  truth_cell = record { value = m + 1; length = m + 1; null = null }

  abbrev Post : Truth → LowState → Type 0
  Post v t = Kept m u t × HoldsTruth truth_cell v t

  abbrev pub tail : Statement
  tail = seq (join_block m oa.cell.null ob.cell.null) (zero_if_null null (m + 1) body)

  joined_low : (a b : Option ℕ) → IsBelowNull m a → IsBelowNull m b → IsBelowNull (m + 1) (joined_null m a b)
  joined_low None None la lb = tt
  joined_low None (Some y) la lb = omega (arith, lb)
  joined_low (Some x) None la lb = omega (arith, la)
  joined_low (Some x) (Some y) la lb = omega arith

  pub null_low : IsBelowNull (m + 1) null
  null_low = joined_low oa.cell.null ob.cell.null low_a.2 low_b.2

  zeroed : (n : Option ℕ) (t : LowState) → null ≡ n → Kept m u t → SaysNull t n → Comes most fuel N Post (Ok Unknown) (zero_if_null n (m + 1) body) t
  zeroed None t is kept says = absurd says
  zeroed (Some n) t is kept says =
      let after : LowState = record t { locals = slice_set t.locals (m + 1) (Number 0) } in
      comes_choose most fuel N some Post (Ok Unknown) (local n) true (assign (m + 1) (i32 0)) body t says
      (λ there. comes_assign most fuel N some Post Unknown (m + 1) (i32 0) (Number 0) t refl (omega (arith, room, kept.many)) (
        Kept-set m u t (m + 1) (Number 0) kept (omega arith),
        (
          slice_get-set_same t.locals (m + 1) (Number 0) (omega (arith, room, kept.many)),
          subst (SaysNull after) (sym is) ((Kept-one t (m + 1) (Number 0)).below n (subst (IsBelowNull (m + 1)) is null_low) ∙ says),
        ),
      ))
      (λ bad. absurd cc)

  unzeroed : (n : Option ℕ) (t : LowState) (r : Result Truth Code) → SaysValue t n → Comes most fuel N Post r body t → Comes most fuel N Post r (zero_if_null n (m + 1) body) t
  unzeroed None t r says h = h
  unzeroed (Some n) t r says h = comes_choose most fuel N some Post r (local n) false (assign (m + 1) (i32 0)) body t says (λ bad. absurd cc) (λ there. h)

  joined_then : (g h : Bool) (r : Result Truth Code) → Says u oa.cell.null g → Says u ob.cell.null h → ((t : LowState) → Kept m u t → Says t null (g || h) → Comes most fuel N Post r (zero_if_null null (m + 1) body) t) → Comes most fuel N Post r tail u
  joined_then g h r one other onward =
      comes_then most fuel N {A = ℕ} (λ k t. Kept m u t × Says t null (g || h)) Post (Ok 0) (λ k. r) (join_block m oa.cell.null ob.cell.null) (zero_if_null null (m + 1) body) u
      (joins most fuel N some u m oa.cell.null ob.cell.null g h (omega (arith, room)) one other) (λ k t same left. onward t left.0 left.1)

  -- it is unknown where one is null, and else as the body says
  pub decided : (x y : Val) (r : Truth) → (x ≡ val.Null → r ≡ Unknown) → (y ≡ val.Null → r ≡ Unknown) → ((x ≡ val.Null → ⊥) → (y ≡ val.Null → ⊥) → (t : LowState) → Kept m u t → SaysValue t null → Comes most fuel N Post (Ok r) body t) →
      Holds oa x u → Holds ob y u → Comes most fuel N Post (Ok r) tail u
  decided x y r first second does one other = ⊎_elim
      (λ x_null. ⊎_elim
      (λ y_null. rw (first x_null) (joined_then true true (Ok Unknown) (null_says oa.cell x u x_null one.0) (null_says ob.cell y u y_null other.0) (λ t kept says. zeroed null t refl kept says)))
      (λ y_not. rw (first x_null) (joined_then true false (Ok Unknown) (null_says oa.cell x u x_null one.0) (other_says ob.cell y u y_not other.0) (λ t kept says. zeroed null t refl kept says)))
      (null_or_not y))
      (λ x_not. ⊎_elim
      (λ y_null. rw (second y_null) (joined_then false true (Ok Unknown) (other_says oa.cell x u x_not one.0) (null_says ob.cell y u y_null other.0) (λ t kept says. zeroed null t refl kept says)))
      (λ y_not. joined_then false false (Ok r) (other_says oa.cell x u x_not one.0) (other_says ob.cell y u y_not other.0) (λ t kept says. unzeroed null t (Ok r) says (does x_not y_not t kept says)))
      (null_or_not y))
      (null_or_not x)
