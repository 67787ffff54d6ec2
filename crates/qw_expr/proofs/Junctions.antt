-- AND and OR, which skip their right sides.
use Rattle.std.proofs.Common.{◌≡◌, ℕ, ◌+◌, ◌<◌, ◌≤◌, Bool, true, false, not, ◌&&◌, ◌||◌, length, Option, Some, None, Ok, slice_get, slice_set, refl, ap, ◌∙◌, inl, inr, ◌⊎◌, arith}
use Rattle.qw_types.specs.Truth.{conjunction, disjunction}
use Rattle.qw_types.specs.declared.truth.Truth.{Truth}
use Rattle.qw_types.specs.declared.truth.Truth.TheVariants.{True, False, Unknown}
use Rattle.qw_scalar.specs.Evaluation.{same_truth}
use Rattle.qw_map.proofs.TurnFacts.{slice_get-set_same}
use Rattle.qw_module.specs.declared.instruction.ValType.TheVariants.{I32}
use Rattle.qw_module.specs.declared.instruction.Binary.TheVariants.{And, Or}
use Rattle.qw_module.specs.Numbers.{truth}
use Rattle.qw_low.specs.declared.cell.Cell.{Cell}
use Rattle.qw_low.specs.Syntax.{Expression, local, binop, is_zero, assign}
use Rattle.qw_low.specs.State.{Number, LowState}
use Rattle.qw_low.specs.Meaning.{value}
use Rattle.qw_low.specs.Raising.{Kept}
use Rattle.qw_low.proofs.Results.{Kept-same, Kept-set, Kept-one, Kept-then, Comes, comes_set, comes_assign}
use Rattle.qw_expr.specs.Cells.{HoldsTruth, IsBelow}
use Rattle.qw_expr.specs.Inner.Truths.{i32, may_hold, unknown_word, junction_null, set_truth}
use Rattle.qw_expr.proofs.Nulls.{truth_kept}

-- ---- the words of a truth
pub true_word : (c : Cell) (t : Truth) (s : LowState) → HoldsTruth c t s → slice_get s.locals c.value ≡ Some (Number (truth (same_truth t True)))
true_word c True s holds = holds.0
true_word c False s holds = holds.0
true_word c Unknown s holds = holds.0

unknown_is : (v : ℕ) (n : Option ℕ) (t : Truth) (s : LowState) → HoldsTruth (record { value = v; length = v; null = n }) t s → value s (unknown_word n) ≡ Some (Number (truth (same_truth t Unknown)))
unknown_is v None True s holds = refl
unknown_is v None False s holds = refl
unknown_is v None Unknown s holds = absurd (holds.1)
unknown_is v (Some n) True s holds = holds.1
unknown_is v (Some n) False s holds = holds.1
unknown_is v (Some n) Unknown s holds = holds.1

pub may_is : (v : ℕ) (n : Option ℕ) (t : Truth) (s : LowState) → HoldsTruth (record { value = v; length = v; null = n }) t s → value s (may_hold v n) ≡ Some (Number (truth (not (same_truth t False))))
may_is v None True s holds = holds.0
may_is v None False s holds = holds.0
may_is v None Unknown s holds = absurd (holds.1)
may_is v (Some n) True s holds = rw (holds.0, holds.1) refl
may_is v (Some n) False s holds = rw (holds.0, holds.1) refl
may_is v (Some n) Unknown s holds = rw (holds.0, holds.1) refl

pub same_cell : (c : Cell) (t : Truth) (s : LowState) → HoldsTruth c t s → HoldsTruth (record { value = c.value; length = c.value; null = c.null }) t s
same_cell c True s holds = holds
same_cell c False s holds = holds
same_cell c Unknown s holds = holds

-- operators on words of truths
and_is : (s : LowState) (e f : Expression) (p q : Bool) → value s e ≡ Some (Number (truth p)) → value s f ≡ Some (Number (truth q)) → value s (binop I32 And e f) ≡ Some (Number (truth (p && q)))
and_is s e f true true one other = rw (one, other) refl
and_is s e f true false one other = rw (one, other) refl
and_is s e f false true one other = rw (one, other) refl
and_is s e f false false one other = rw (one, other) refl

or_is : (s : LowState) (e f : Expression) (p q : Bool) → value s e ≡ Some (Number (truth p)) → value s f ≡ Some (Number (truth q)) → value s (binop I32 Or e f) ≡ Some (Number (truth (p || q)))
or_is s e f true true one other = rw (one, other) refl
or_is s e f true false one other = rw (one, other) refl
or_is s e f false true one other = rw (one, other) refl
or_is s e f false false one other = rw (one, other) refl

pub not_is : (s : LowState) (e : Expression) (p : Bool) → value s e ≡ Some (Number (truth p)) → value s (is_zero I32 e) ≡ Some (Number (truth (not p)))
not_is s e true one = rw one refl
not_is s e false one = rw one refl

-- what AND gives of a left side that isn't false, and OR of one that isn't true
and_true : (c d : Truth) → (same_truth c True && same_truth d True) ≡ same_truth (conjunction c d) True
and_true True True = refl
and_true True False = refl
and_true True Unknown = refl
and_true False d = refl
and_true Unknown True = refl
and_true Unknown False = refl
and_true Unknown Unknown = refl

and_unknown : (c d : Truth) → same_truth c False ≡ false → ((same_truth c Unknown || same_truth d Unknown) && not (same_truth d False)) ≡ same_truth (conjunction c d) Unknown
and_unknown True True other = refl
and_unknown True False other = refl
and_unknown True Unknown other = refl
and_unknown False d other = absurd cc
and_unknown Unknown True other = refl
and_unknown Unknown False other = refl
and_unknown Unknown Unknown other = refl

or_true : (c d : Truth) → same_truth c True ≡ false → same_truth d True ≡ same_truth (disjunction c d) True
or_true True d other = absurd cc
or_true False d other = refl
or_true Unknown True other = refl
or_true Unknown False other = refl
or_true Unknown Unknown other = refl

or_unknown : (c d : Truth) → same_truth c True ≡ false → ((same_truth c Unknown || same_truth d Unknown) && not (same_truth d True)) ≡ same_truth (disjunction c d) Unknown
or_unknown True d other = absurd cc
or_unknown False True other = refl
or_unknown False False other = refl
or_unknown False Unknown other = refl
or_unknown Unknown True other = refl
or_unknown Unknown False other = refl
or_unknown Unknown Unknown other = refl

-- a truth from its two words
from_words : (t w : ℕ) (r : Truth) (s : LowState) → slice_get s.locals t ≡ Some (Number (truth (same_truth r True))) → slice_get s.locals w ≡ Some (Number (truth (same_truth r Unknown))) → HoldsTruth (record { value = t; length = t; null = Some w }) r s
from_words t w True s one other = (one, other)
from_words t w False s one other = (one, other)
from_words t w Unknown s one other = (one, other)

from_word : (t : ℕ) (r : Truth) (s : LowState) → same_truth r Unknown ≡ false → slice_get s.locals t ≡ Some (Number (truth (same_truth r True))) → HoldsTruth (record { value = t; length = t; null = None }) r s
from_word t True s sure one = (one, tt)
from_word t False s sure one = (one, tt)
from_word t Unknown s sure one = absurd cc

-- without a null word a truth is known
known_truth : (v : ℕ) (t : Truth) (s : LowState) → HoldsTruth (record { value = v; length = v; null = None }) t s → same_truth t Unknown ≡ false
known_truth v True s holds = refl
known_truth v False s holds = refl
known_truth v Unknown s holds = absurd (holds.1)

pub null_cases : (m : ℕ) (a b : Option ℕ) → (junction_null (m + 1) a b ≡ None) ⊎ (junction_null (m + 1) a b ≡ Some (m + 1))
null_cases m None None = inl refl
null_cases m None (Some n) = inr refl
null_cases m (Some k) n = inr refl

module _ (most fuel N : ℕ) (some : 1 ≤ N) (m : ℕ) where
  -- the null word of a junction is the local behind the truth's, if there is one
  sets : (s u : LowState) (null : Option ℕ) → (null ≡ None) ⊎ (null ≡ Some (m + 1)) → (r : Truth) (e f : Expression) → Kept m s u → m + 1 < length u.locals → (null ≡ None → same_truth r Unknown ≡ false) →
      ((w : LowState) → Kept m u w → (value w e ≡ Some (Number (truth (same_truth r True)))) × (value w f ≡ Some (Number (truth (same_truth r Unknown))))) →
      Comes most fuel N (λ v w. Kept m s w × HoldsTruth (record { value = m; length = m; null = null }) v w) (Ok r) (set_truth null m e f) u
  sets s u null (inl none) r e f kept room sure values =
      rw none
      (comes_assign most fuel N some (λ v w. Kept m s w × HoldsTruth (record { value = m; length = m; null = None }) v w) r m e (Number (truth (same_truth r True))) u (values u (Kept-same m u)).0 (omega (arith, room)) (
        Kept-set m s u m (Number (truth (same_truth r True))) kept (omega arith),
        from_word m r (record u { locals = slice_set u.locals m (Number (truth (same_truth r True))) }) (sure none) (slice_get-set_same u.locals m (Number (truth (same_truth r True))) (omega (arith, room))),
      ))
  sets s u null (inr there) r e f kept room sure values =
      let one : LowState = record u { locals = slice_set u.locals m (Number (truth (same_truth r True))) } in
      let other : LowState = record one { locals = slice_set one.locals (m + 1) (Number (truth (same_truth r Unknown))) } in
      let step : Kept m u one = Kept-one u m (Number (truth (same_truth r True))) in
      rw there
      (comes_set most fuel N some (λ v w. Kept m s w × HoldsTruth (record { value = m; length = m; null = Some (m + 1) }) v w) (Ok r) m e (Number (truth (same_truth r True))) (assign (m + 1) f) u (values u (Kept-same m u)).0 (omega (arith, room))
      (comes_assign most fuel N some (λ v w. Kept m s w × HoldsTruth (record { value = m; length = m; null = Some (m + 1) }) v w) r (m + 1) f (Number (truth (same_truth r Unknown))) one (values one step).1 (omega (arith, room, step.many)) (
        Kept-set m s one (m + 1) (Number (truth (same_truth r Unknown))) (Kept-then m m s u one (omega arith) kept step) (omega arith),
        from_words m (m + 1) r other ((Kept-one one (m + 1) (Number (truth (same_truth r Unknown)))).below m (omega arith) ∙ slice_get-set_same u.locals m (Number (truth (same_truth r True))) (omega (arith, room)))
            (slice_get-set_same one.locals (m + 1) (Number (truth (same_truth r Unknown))) (omega (arith, room, step.many))),
      )))

  module _ (c d : Cell) (low_c : IsBelow m c) (low_d : IsBelow m d) where
    abbrev null : Option ℕ
    null = junction_null (m + 1) c.null d.null

    sure_both : (a b : Option ℕ) (va vb : ℕ) (x y : Truth) (s : LowState) → junction_null (m + 1) a b ≡ None → HoldsTruth (record { value = va; length = va; null = a }) x s → HoldsTruth (record { value = vb; length = vb; null = b }) y s →
        (same_truth x Unknown ≡ false) × (same_truth y Unknown ≡ false)
    sure_both None None va vb x y s none one other = (known_truth va x s one, known_truth vb y s other)
    sure_both None (Some n) va vb x y s none one other = absurd cc
    sure_both (Some k) n va vb x y s none one other = absurd cc

    sure_and : (x y : Truth) → same_truth x Unknown ≡ false → same_truth y Unknown ≡ false → same_truth (conjunction x y) Unknown ≡ false
    sure_and True y one other = other
    sure_and False y one other = refl
    sure_and Unknown y one other = absurd cc

    sure_or : (x y : Truth) → same_truth x Unknown ≡ false → same_truth y Unknown ≡ false → same_truth (disjunction x y) Unknown ≡ false
    sure_or True y one other = refl
    sure_or False y one other = other
    sure_or Unknown y one other = absurd cc

    pub sets_and : (s u : LowState) (x y : Truth) → Kept m s u → m + 1 < length u.locals → same_truth x False ≡ false → HoldsTruth c x u → HoldsTruth d y u →
        Comes most fuel N (λ v w. Kept m s w × HoldsTruth (record { value = m; length = m; null = null }) v w) (Ok (conjunction x y))
        (set_truth null m (binop I32 And (local c.value) (local d.value)) (binop I32 And (binop I32 Or (unknown_word c.null) (unknown_word d.null)) (may_hold d.value d.null))) u
    sets_and s u x y kept room other one two =
        sets s u null (null_cases m c.null d.null) (conjunction x y) (binop I32 And (local c.value) (local d.value)) (binop I32 And (binop I32 Or (unknown_word c.null) (unknown_word d.null)) (may_hold d.value d.null)) kept room
        (λ none. let known = sure_both c.null d.null c.value d.value x y u none (same_cell c x u one) (same_cell d y u two) in sure_and x y known.0 known.1)
        (λ w step.
        let first = truth_kept m u w c x step low_c one in
        let second = truth_kept m u w d y step low_d two in (
          and_is w (local c.value) (local d.value) (same_truth x True) (same_truth y True) (true_word c x w first) (true_word d y w second) ∙ ap (λ g. Some (Number (truth g))) (and_true x y),
          and_is w (binop I32 Or (unknown_word c.null) (unknown_word d.null)) (may_hold d.value d.null) (same_truth x Unknown || same_truth y Unknown) (not (same_truth y False))
              (or_is w (unknown_word c.null) (unknown_word d.null) (same_truth x Unknown) (same_truth y Unknown) (unknown_is c.value c.null x w (same_cell c x w first)) (unknown_is d.value d.null y w (same_cell d y w second)))
              (may_is d.value d.null y w (same_cell d y w second)) ∙ ap (λ g. Some (Number (truth g))) (and_unknown x y other),
        ))

    pub sets_or : (s u : LowState) (x y : Truth) → Kept m s u → m + 1 < length u.locals → same_truth x True ≡ false → HoldsTruth c x u → HoldsTruth d y u →
        Comes most fuel N (λ v w. Kept m s w × HoldsTruth (record { value = m; length = m; null = null }) v w) (Ok (disjunction x y))
        (set_truth null m (local d.value) (binop I32 And (binop I32 Or (unknown_word c.null) (unknown_word d.null)) (is_zero I32 (local d.value)))) u
    sets_or s u x y kept room other one two =
        sets s u null (null_cases m c.null d.null) (disjunction x y) (local d.value) (binop I32 And (binop I32 Or (unknown_word c.null) (unknown_word d.null)) (is_zero I32 (local d.value))) kept room
        (λ none. let known = sure_both c.null d.null c.value d.value x y u none (same_cell c x u one) (same_cell d y u two) in sure_or x y known.0 known.1)
        (λ w step.
        let first = truth_kept m u w c x step low_c one in
        let second = truth_kept m u w d y step low_d two in (
          true_word d y w second ∙ ap (λ g. Some (Number (truth g))) (or_true x y other),
          and_is w (binop I32 Or (unknown_word c.null) (unknown_word d.null)) (is_zero I32 (local d.value)) (same_truth x Unknown || same_truth y Unknown) (not (same_truth y True))
              (or_is w (unknown_word c.null) (unknown_word d.null) (same_truth x Unknown) (same_truth y Unknown) (unknown_is c.value c.null x w (same_cell c x w first)) (unknown_is d.value d.null y w (same_cell d y w second)))
              (not_is w (local d.value) (same_truth y True) (true_word d y w second)) ∙ ap (λ g. Some (Number (truth g))) (or_unknown x y other),
        ))

    -- what is skipped
    pub sets_false : (s u : LowState) → Kept m s u → m + 1 < length u.locals → Comes most fuel N (λ v w. Kept m s w × HoldsTruth (record { value = m; length = m; null = null }) v w) (Ok False) (set_truth null m (i32 0) (i32 0)) u
    sets_false s u kept room = sets s u null (null_cases m c.null d.null) False (i32 0) (i32 0) kept room (λ none. refl) (λ w step. (refl, refl))

    pub sets_true : (s u : LowState) → Kept m s u → m + 1 < length u.locals → Comes most fuel N (λ v w. Kept m s w × HoldsTruth (record { value = m; length = m; null = null }) v w) (Ok True) (set_truth null m (i32 1) (i32 0)) u
    sets_true s u kept room = sets s u null (null_cases m c.null d.null) True (i32 1) (i32 0) kept room (λ none. refl) (λ w step. (refl, refl))
