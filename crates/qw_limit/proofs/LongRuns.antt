-- Runs that end as they should, or are long: how they are put together from their parts. Of two statements, of which the first counts down, either all that
-- came was counted, or the local is 0 between them, and then the run takes as many instructions as the local held at first, since each turn of the count is two at least.
use Rattle.std.proofs.Common.{◌≡◌, ℕ, ◌+◌, ◌*◌, ◌^◌, ◌<◌, ◌≤◌, ◌⊎◌, inl, inr, length, Some, slice_get, slice_set, sym, ap, ◌∙◌, ⊎_elim, arith}
use Rattle.std.proofs.lemmas.Bool.{lt-ltb}
use Rattle.std.proofs.lemmas.Option.{same_Some}
use Rattle.qw_module.specs.declared.instruction.Const.TheVariants as const
use Rattle.qw_low.specs.Syntax.{Statement, constant_of, seq, assign}
use Rattle.qw_low.specs.State.{Value, Number, Address, LowState}
use Rattle.qw_low.specs.Meaning.{Outcome, Completed, Exited, Stopped, Wrong, Unfinished, and_then, counting, meaning}
use Rattle.qw_low.specs.Promise.{Ends}
use Rattle.qw_low.proofs.Promises.{Ends-counting, Ends-weaker}
use Rattle.qw_limit.specs.Counting.{CountsDown, EndsOrTakes, TakesAtLeast}
use Rattle.qw_limit.proofs.Lowered.{HasLowered, lowered}

-- ---- how long it takes
takes-counting : (least n : ℕ) (out : Outcome) → TakesAtLeast least out → TakesAtLeast least (counting n out)
takes-counting least n (Completed m t) h = omega (arith, h)
takes-counting least n (Exited m t) h = omega (arith, h)
takes-counting least n (Stopped code m t) h = omega (arith, h)
takes-counting least n Wrong h = h
takes-counting least n Unfinished h = h

takes-fewer : (least more : ℕ) (out : Outcome) → least ≤ more → TakesAtLeast more out → TakesAtLeast least out
takes-fewer least more (Completed m t) le h = omega (arith, h, le)
takes-fewer least more (Exited m t) le h = omega (arith, h, le)
takes-fewer least more (Stopped code m t) le h = omega (arith, h, le)
takes-fewer least more Wrong le h = h
takes-fewer least more Unfinished le h = h

-- what follows so many instructions, and ends
takes-behind : (least n most : ℕ) (P X : LowState → Type 0) (R : ℕ → Type 0) (out : Outcome) → 2 * least ≤ n → Ends most P X R out → TakesAtLeast least (counting n out)
takes-behind least n most P X R (Completed m t) le h = omega (arith, le)
takes-behind least n most P X R (Exited m t) le h = omega (arith, le)
takes-behind least n most P X R (Stopped code m t) le h = omega (arith, le)
takes-behind least n most P X R Wrong le h = h
takes-behind least n most P X R Unfinished le h = h

abbrev value_in : Value → ℕ
value_in (Number n) = n
value_in (Address p offset) = 0

number_is : (v w : ℕ) → Some (Number v) ≡ Some (Number w) → v ≡ w
number_is v w same = ap value_in (same_Some (Number v) (Number w) same)

-- ---- of parts
module _ (Post Other X : LowState → Type 0) (R S : ℕ → Type 0) where
  abbrev Either : (least most : ℕ) → Outcome → Type 0
  Either least most out = EndsOrTakes least most Post Other X R S out

  -- fewer instructions at least, and more at most
  pub or_takes_more : (least more m n : ℕ) (out : Outcome) → least ≤ more → m ≤ n → EndsOrTakes more m Post Other X R S out → EndsOrTakes least n Post Other X R S out
  or_takes_more least more m n out le le' (inl h) = inl (Ends-weaker m n Post Post X X R R out le' (λ t p. p) (λ t x. x) (λ code r. r) h)
  or_takes_more least more m n out le le' (inr h) = inr (Ends-weaker m n Other Other X X S S out le' (λ t p. p) (λ t x. x) (λ code r. r) h.0, takes-fewer least more out le h.1)

  -- instructions before it
  pub or_takes_counting : (least k l m : ℕ) (out : Outcome) → k ≤ l → EndsOrTakes least m Post Other X R S out → EndsOrTakes least (l + m) Post Other X R S (counting k out)
  or_takes_counting least k l m out le (inl h) = inl (Ends-counting Post X R k l m out le h)
  or_takes_counting least k l m out le (inr h) = inr (Ends-counting Other X S k l m out le h.0, takes-counting least k out h.1)

  behind-all : (least m n : ℕ) (M : LowState → Type 0) (out : Outcome) (f : LowState → Outcome) → Ends m M X R out → ((t : LowState) → M t → Either least n (f t)) → Either least (m + n) (and_then out f)
  behind-all least m n M (Completed k s) f first second = or_takes_counting least k m n (f s) first.0 (second s first.1)
  behind-all least m n M (Exited k s) f first second = inl (omega (arith, first.0), first.1)
  behind-all least m n M (Stopped code k s) f first second = inl (omega (arith, first.0), first.1)
  behind-all least m n M Wrong f first second = absurd first
  behind-all least m n M Unfinished f first second = absurd first

  -- The local held v before the first of two. Behind it either the second ends as it should, or the local is 0 and the second ends in the other way.
  behind-counted : (z v m n : ℕ) (M : LowState → Type 0) (out : Outcome) (f : LowState → Outcome) → HasLowered z v out → Ends m M X R out →
      ((t : LowState) → M t → Ends n Post X R (f t) ⊎ ((slice_get t.locals z ≡ Some (Number 0)) × Ends n Other X S (f t))) → Either v (m + n) (and_then out f)
  behind-counted z v m n M (Completed k s) f low first second = ⊎_elim
      (λ all. inl (Ends-counting Post X R k m n (f s) first.0 all))
      (λ cut.
      let none : low.0 ≡ 0 = number_is low.0 0 (sym low.1 ∙ cut.0) in
      let long : 2 * v ≤ k = omega (arith, none, low.3) in
      inr (Ends-counting Other X S k m n (f s) first.0 cut.1, takes-behind v k n Other X S (f s) long cut.1))
      (second s first.1)
  behind-counted z v m n M (Exited k s) f low first second = inl (omega (arith, first.0), first.1)
  behind-counted z v m n M (Stopped code k s) f low first second = inl (omega (arith, first.0), first.1)
  behind-counted z v m n M Wrong f low first second = absurd first
  behind-counted z v m n M Unfinished f low first second = absurd first

  module _ (most fuel : ℕ) where
    -- a statement, and then what may take long
    pub or_takes_then : (least m n : ℕ) (M : LowState → Type 0) (a b : Statement) (s : LowState) → Ends m M X R (meaning most fuel a s) → ((t : LowState) → M t → EndsOrTakes least n Post Other X R S (meaning most fuel b t)) →
        EndsOrTakes least (m + n) Post Other X R S (meaning most fuel (seq a b) s)
    or_takes_then least m n M a b s first second = behind-all least m n M (meaning most fuel a s) (meaning most fuel b) first second

    -- a statement that counts down, and what follows: the run takes long where the local is 0 between them, and what follows does not end as it should
    pub counted_then : (z v m n : ℕ) (M : LowState → Type 0) (a b : Statement) (s : LowState) → CountsDown z a → v < 2 ^ 64 → slice_get s.locals z ≡ Some (Number v) → Ends m M X R (meaning most fuel a s) →
        ((t : LowState) → M t → Ends n Post X R (meaning most fuel b t) ⊎ ((slice_get t.locals z ≡ Some (Number 0)) × Ends n Other X S (meaning most fuel b t))) →
        EndsOrTakes v (m + n) Post Other X R S (meaning most fuel (seq a b) s)
    counted_then z v m n M a b s counts small is first second =
        behind-counted z v m n M (meaning most fuel a s) (meaning most fuel b) (lowered z most fuel a v s counts small is) first second

    -- the local is set, which counts two
    pub set_then : (z v least m : ℕ) (a : Statement) (s : LowState) → z < length s.locals → EndsOrTakes least m Post Other X R S (meaning most fuel a (record s { locals = slice_set s.locals z (Number v) })) →
        EndsOrTakes least (2 + m) Post Other X R S (meaning most fuel (seq (assign z (constant_of (const.I64 v))) a) s)
    set_then z v least m a s room h = rw (lt-ltb z (length s.locals) room)
        (or_takes_counting least 2 2 m (meaning most fuel a (record s { locals = slice_set s.locals z (Number v) })) (omega arith) h)
