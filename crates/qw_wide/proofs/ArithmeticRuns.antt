-- What the blocks of arithmetic come to.
use Rattle.std.proofs.Common.{◌≡◌, ℕ, zero, suc, ◌+◌, ◌-◌, ◌*◌, ◌/◌, ◌%◌, ◌^◌, ◌<◌, ◌≤◌, ◌==◌, nat_lt, Bool, true, false, ℤ, pos, negsuc, ◌-ℤ◌, ◌*ℤ◌, int_lt, int_div, unsigned_abs, FitsSigned, neg_ℤ, IsTrue, if◌then◌else◌, length, length-set, Some, Result, Ok, Err, slice_set, refl, sym, ap, ◌∙◌, subst, ⊎_elim, arith, w64}
use Rattle.std.proofs.lemmas.Bool.{eqb-true, eq-eqb, cases_eq, lt-ltb, le-ltb, ltb-true, ltb-false, cases_lt}
use Rattle.std.proofs.lemmas.Int.{ints, unsigned_abs-mul}
use Rattle.std.proofs.lemmas.Nat.{mul-le, le-div}
use Rattle.std.proofs.Math.Nat.{div-le_self, div-mul-le_self, pow-le-pow_right, mul_comm}
use Rattle.qw_types.specs.declared.code.Code.{Code}
use Rattle.qw_types.specs.declared.code.Code.TheVariants.{DivZero, OutOfRange}
use Rattle.qw_types.specs.Arithmetic.{◌>>=◌, fits, checked, product_of}
use Rattle.qw_map.proofs.TurnFacts.{slice_get-set_same}
use Rattle.qw_module.specs.declared.instruction.ValType.TheVariants.{I64}
use Rattle.qw_module.specs.declared.instruction.Sign.TheVariants.{Signed, Unsigned}
use Rattle.qw_module.specs.declared.instruction.Binary.{Binary}
use Rattle.qw_module.specs.declared.instruction.Binary.TheVariants.{Add, Sub, Mul}
use Rattle.qw_module.specs.declared.instruction.Division.TheVariants.{Div}
use Rattle.qw_module.specs.declared.instruction.Relation.TheVariants.{Lt, Gt}
use Rattle.qw_module.specs.Numbers.{binary, truth}
use Rattle.qw_low.specs.Syntax.{Expression, local, binop, divop, is_zero, relop, Statement, skip, seq, assign, conditional, raise}
use Rattle.qw_low.specs.State.{Number, LowState}
use Rattle.qw_low.specs.Meaning.{value}
use Rattle.qw_low.specs.Raising.{Kept}
use Rattle.qw_low.specs.Held.{HoldsNumber}
use Rattle.qw_low.proofs.Results.{Kept-same, Kept-set, Kept-then, Kept-one, Comes, comes_then, comes_skip, comes_assign, comes_set, comes_raise, comes_choose, comes_unless}
use Rattle.qw_wide.specs.Inner.Blocks.{i64, check_if, raise_scale, bring_block, brought_in, sum_block, opposite_block, checked_product, product_block, quotient_block}
use Rattle.qw_wide.proofs.Words.{word, small, word_back, fits_below, below_fits, fits_small, word-sub, word-mul, word_zero, negated, quotient_below, word-div, past_limit, held_word, word_held}

-- ---- what is given
pub held_kept : (n : ℕ) (s t : LowState) (x : ℕ) (v : ℤ) → Kept n s t → x < n → HoldsNumber s x v → HoldsNumber t x v
held_kept n s t x v kept low holds = (holds.0, kept.below x low ∙ holds.1, holds.2, holds.3)

-- a number of at most 18 digits is left in a local
abbrev pub Given : (n : ℕ) → LowState → (x : ℕ) → ℤ → LowState → Type 0
Given n s x v t = Kept n s t × HoldsNumber t x v × IsTrue (fits v)

pub checked_in : (z : ℤ) → unsigned_abs z < 10 ^ 18 → checked z ≡ Ok z
checked_in z h = rw (lt-ltb (unsigned_abs z) (10 ^ 18) h) refl

pub checked_past : (z : ℤ) → 10 ^ 18 ≤ unsigned_abs z → checked z ≡ Err OutOfRange
checked_past z h = rw (le-ltb (unsigned_abs z) (10 ^ 18) h) refl

pub power_small : (k : ℕ) → k ≤ 18 → 10 ^ k ≤ 10 ^ 18
power_small k h = pow-le-pow_right (omega arith) h

pub power_some : (k : ℕ) → 1 ≤ 10 ^ k
power_some k =
    let base : 0 < 10 = omega arith in
    let up_to : 0 ≤ k = omega arith in
    let least : 10 ^ 0 ≤ 10 ^ k = pow-le-pow_right base up_to in
    omega (arith, least)

-- a product with a positive number is in range where the other factor is at most the quotient
product_in : (m p : ℕ) → 1 ≤ p → m ≤ (10 ^ 18 - 1) / p → m * p < 10 ^ 18
product_in m p positive h =
    let more : m * p ≤ (10 ^ 18 - 1) / p * p = mul-le m p ((10 ^ 18 - 1) / p) p h (omega arith) in
    omega (arith, more, div-mul-le_self (10 ^ 18 - 1) p)

product_past : (m p : ℕ) → 1 ≤ p → (10 ^ 18 - 1) / p < m → 10 ^ 18 ≤ m * p
product_past m p positive h = ⊎_elim
    (λ (less : m * p < 10 ^ 18).
    let within : m ≤ (10 ^ 18 - 1) / p = le-div m (10 ^ 18 - 1) p positive (omega arith) in
    absurd (omega arith))
    (λ more. more)
    (cases_lt (m * p) (10 ^ 18))

-- what a test of a product tells
tested_product : (a b : ℤ) (m p : ℕ) → unsigned_abs (a *ℤ b) ≡ m * p → 1 ≤ p → (if nat_lt ((10 ^ 18 - 1) / p) m then Err OutOfRange else Ok (a *ℤ b)) ≡ checked (a *ℤ b)
tested_product a b m p size positive = ⊎_elim
    (λ less. rw (lt-ltb ((10 ^ 18 - 1) / p) m less) (sym (checked_past (a *ℤ b) (omega (arith, size, product_past m p positive less)))))
    (λ more. rw (le-ltb ((10 ^ 18 - 1) / p) m more) (sym (checked_in (a *ℤ b) (omega (arith, size, product_in m p positive more)))))
    (cases_lt ((10 ^ 18 - 1) / p) m)

pub same_ok : {v w : ℤ} → ◌≡◌ {A = Result ℤ Code} (Ok v) (Ok w) → v ≡ w
same_ok e = cc

pub no_ok : {v : ℤ} {code : Code} → ◌≡◌ {A = Result ℤ Code} (Ok v) (Err code) → ⊥
no_ok e = absurd cc

pub scaled_abs : (a : ℤ) (k : ℕ) → unsigned_abs (a *ℤ pos (10 ^ k)) ≡ unsigned_abs a * 10 ^ k
scaled_abs a k = unsigned_abs-mul a (pos (10 ^ k))

zero_abs : (z : ℤ) → unsigned_abs z ≡ 0 → z ≡ pos 0
zero_abs z h = grind (arith, ints)

quotient_abs : (m : ℕ) (a : ℤ) → unsigned_abs (int_div (pos m) a) ≡ m / unsigned_abs a
quotient_abs m (pos a) = refl
quotient_abs m (negsuc a) = negated (m / suc a)

turned_is : (z : ℤ) → int_lt z (pos 0) ≡ true → neg_ℤ z ≡ pos (unsigned_abs z)
turned_is z h = grind (arith, ints)

unturned_is : (z : ℤ) → int_lt z (pos 0) ≡ false → z ≡ pos (unsigned_abs z)
unturned_is z h = grind (arith, ints)

module _ (most fuel N : ℕ) (some : 1 ≤ N) where
  -- an expression's number into the first free local
  pub sets : (s0 s : LowState) (n : ℕ) (e : Expression) (v : ℤ) → Kept n s0 s → value s e ≡ Some (Number (word v)) → IsTrue (fits v) → n < length s.locals → Comes most fuel N (Given n s0 n) (Ok v) (assign n e) s
  sets s0 s n e v kept is fit room = comes_assign most fuel N some (Given n s0 n) v n e (Number (word v)) s is room (
    Kept-set n s0 s n (Number (word v)) kept (omega arith),
    word_held (record s { locals = slice_set s.locals n (Number (word v)) }) n v (fits_small v fit) (slice_get-set_same s.locals n (Number (word v)) room),
    fit,
  )

  -- ---- the range
  past : (s : LowState) (limit x : ℕ) (z : ℤ) → HoldsNumber s x z → unsigned_abs z < 2 ^ 62 → limit < 2 ^ 62 →
      value s (relop I64 (Gt Unsigned) (binop I64 Add (local x) (i64 limit)) (i64 (limit + limit))) ≡ Some (Number (truth (nat_lt limit (unsigned_abs z))))
  past s limit x z holds small_z small_limit = rw (held_word s x z holds, past_limit z limit small_z small_limit) refl

  pub checks : (s0 s : LowState) (c : Bool) (n x : ℕ) (z : ℤ) → Kept n s0 s → HoldsNumber s x z → unsigned_abs z < 2 ^ 62 → (c ≡ false → unsigned_abs z < 10 ^ 18) →
      Comes most fuel N (Given n s0 x) (checked z) (check_if c (10 ^ 18 - 1) x) s
  checks s0 s false n x z kept holds small_z within =
      rw (checked_in z (within refl)) (comes_skip most fuel N some (Given n s0 x) z s (kept, holds, below_fits z (within refl)))
  checks s0 s true n x z kept holds small_z within =
      comes_choose most fuel N some (Given n s0 x) (checked z) (relop I64 (Gt Unsigned) (binop I64 Add (local x) (i64 (10 ^ 18 - 1))) (i64 (10 ^ 18 - 1 + (10 ^ 18 - 1)))) (nat_lt (10 ^ 18 - 1) (unsigned_abs z)) (raise 2) skip s
      (past s (10 ^ 18 - 1) x z holds small_z (omega arith))
      (λ above. rw (checked_past z (omega (arith, ltb-true (10 ^ 18 - 1) (unsigned_abs z) above))) (comes_raise most fuel N some (Given n s0 x) OutOfRange s))
      (λ below.
      let inside : unsigned_abs z < 10 ^ 18 = omega (arith, ltb-false (10 ^ 18 - 1) (unsigned_abs z) below) in
      rw (checked_in z inside) (comes_skip most fuel N some (Given n s0 x) z s (kept, holds, below_fits z inside)))

  -- ---- bringing
  scales : (s0 s : LowState) (n k x : ℕ) (a : ℤ) → Kept n s0 s → HoldsNumber s x a → IsTrue (fits a) → k ≤ 18 → n < length s.locals → unsigned_abs a * 10 ^ k < 10 ^ 18 →
      Comes most fuel N (Given n s0 n) (Ok (a *ℤ pos (10 ^ k))) (assign n (binop I64 Mul (local x) (i64 (10 ^ k)))) s
  scales s0 s n k x a kept holds fit low room within =
      let size : unsigned_abs (a *ℤ pos (10 ^ k)) < 10 ^ 18 = omega (arith, scaled_abs a k) in
      let power : FitsSigned w64 (pos (10 ^ k)) = small (pos (10 ^ k)) (omega (arith, power_small k low)) in
      sets s0 s n (binop I64 Mul (local x) (i64 (10 ^ k))) (a *ℤ pos (10 ^ k)) kept
      (rw (held_word s x a holds) (ap (λ (m : ℕ). Some (Number m)) (word-mul a (pos (10 ^ k)) (fits_small a fit) power (small (a *ℤ pos (10 ^ k)) (omega (arith, size))))))
      (below_fits (a *ℤ pos (10 ^ k)) size) room

  raises : (s0 s : LowState) (c : Bool) (n k x : ℕ) (a : ℤ) → Kept n s0 s → HoldsNumber s x a → IsTrue (fits a) → k ≤ 18 → n < length s.locals → (c ≡ false → unsigned_abs a * 10 ^ k < 10 ^ 18) →
      Comes most fuel N (Given n s0 n) (checked (a *ℤ pos (10 ^ k))) (raise_scale c k n x) s
  raises s0 s false n k x a kept holds fit low room within =
      rw (checked_in (a *ℤ pos (10 ^ k)) (omega (arith, scaled_abs a k, within refl)))
      (comes_then most fuel N {A = ℕ} (λ m t. t ≡ s) (Given n s0 n) (Ok 0) (λ m. Ok (a *ℤ pos (10 ^ k))) skip (assign n (binop I64 Mul (local x) (i64 (10 ^ k)))) s
      (comes_skip most fuel N some {A = ℕ} (λ m t. t ≡ s) 0 s refl)
      (λ m t same is. subst (λ (u : LowState). Comes most fuel N (Given n s0 n) (Ok (a *ℤ pos (10 ^ k))) (assign n (binop I64 Mul (local x) (i64 (10 ^ k)))) u) (sym is)
      (scales s0 s n k x a kept holds fit low room (within refl))))
  raises s0 s true n k x a kept holds fit low room within =
      subst (λ (r : Result ℤ Code). Comes most fuel N (Given n s0 n) r (raise_scale true k n x) s)
      (tested_product a (pos (10 ^ k)) (unsigned_abs a) (10 ^ k) (scaled_abs a k) (power_some k))
      (comes_unless most fuel N some (Given n s0 n) (Ok (a *ℤ pos (10 ^ k))) (relop I64 (Gt Unsigned) (binop I64 Add (local x) (i64 ((10 ^ 18 - 1) / 10 ^ k))) (i64 ((10 ^ 18 - 1) / 10 ^ k + (10 ^ 18 - 1) / 10 ^ k)))
      (nat_lt ((10 ^ 18 - 1) / 10 ^ k) (unsigned_abs a)) OutOfRange (assign n (binop I64 Mul (local x) (i64 (10 ^ k)))) s
      (past s ((10 ^ 18 - 1) / 10 ^ k) x a holds (omega (arith, fits_below a fit)) (omega (arith, div-le_self (10 ^ 18 - 1) (10 ^ k))))
      (λ below. scales s0 s n k x a kept holds fit low room (product_in (unsigned_abs a) (10 ^ k) (power_some k) (ltb-false ((10 ^ 18 - 1) / 10 ^ k) (unsigned_abs a) below))))

  pub brings : (s0 s : LowState) (c : Bool) (k n x : ℕ) (a : ℤ) → Kept n s0 s → HoldsNumber s x a → IsTrue (fits a) → k ≤ 18 → n < length s.locals → (c ≡ false → unsigned_abs a * 10 ^ k < 10 ^ 18) →
      Comes most fuel N (Given n s0 (brought_in k n x)) (checked (a *ℤ pos (10 ^ k))) (bring_block c k n x) s
  brings s0 s c zero n x a kept holds fit low room within =
      let same : a *ℤ pos 1 ≡ a = times_one a in
      rw (same, checked_in a (fits_below a fit)) (comes_skip most fuel N some (Given n s0 x) a s (kept, holds, fit))
    where
      times_one : (a : ℤ) → a *ℤ pos 1 ≡ a
      times_one a = omega (arith, ints)
  brings s0 s c (suc k) n x a kept holds fit low room within = raises s0 s c n (suc k) x a kept holds fit low room within

  -- ---- sums and differences
  module _ (operator : Binary) (made : ℤ → ℤ → ℤ)
      (makes : (v w : ℤ) → unsigned_abs v < 10 ^ 18 → unsigned_abs w < 10 ^ 18 → (binary I64 operator (word v) (word w) ≡ word (made v w)) × (unsigned_abs (made v w) < 2 ^ 62)) where
    -- the operator on two locals, and the check
    makes_one : (s0 s : LowState) (c : Bool) (n x y : ℕ) (v w : ℤ) → Kept n s0 s → HoldsNumber s x v → HoldsNumber s y w → IsTrue (fits v) → IsTrue (fits w) → n < length s.locals →
        (c ≡ false → unsigned_abs (made v w) < 10 ^ 18) →
        Comes most fuel N (Given n s0 n) (checked (made v w)) (seq (assign n (binop I64 operator (local x) (local y))) (check_if c (10 ^ 18 - 1) n)) s
    makes_one s0 s c n x y v w kept left right fit_v fit_w room within =
        let done = makes v w (fits_below v fit_v) (fits_below w fit_w) in
        let z : ℤ = made v w in
        let after : LowState = record s { locals = slice_set s.locals n (Number (word z)) } in
        comes_set most fuel N some (Given n s0 n) (checked z) n (binop I64 operator (local x) (local y)) (Number (word z)) (check_if c (10 ^ 18 - 1) n) s
        (rw (held_word s x v left, held_word s y w right) (ap (λ (m : ℕ). Some (Number m)) done.0)) room
        (checks s0 after c n n z (Kept-set n s0 s n (Number (word z)) kept (omega arith))
        (word_held after n z (small z (omega (arith, done.1))) (slice_get-set_same s.locals n (Number (word z)) room)) done.1 within)

    pub combines : (s : LowState) (ca cb c : Bool) (ka kb n x y : ℕ) (a b : ℤ) → HoldsNumber s x a → HoldsNumber s y b → IsTrue (fits a) → IsTrue (fits b) → x < n → y < n → ka ≤ 18 → kb ≤ 18 →
        n + 1 < length s.locals → (ca ≡ false → unsigned_abs a * 10 ^ ka < 10 ^ 18) → (cb ≡ false → unsigned_abs b * 10 ^ kb < 10 ^ 18) →
        (c ≡ false → (v w : ℤ) → unsigned_abs v ≡ unsigned_abs a * 10 ^ ka → unsigned_abs w ≡ unsigned_abs b * 10 ^ kb → unsigned_abs v < 10 ^ 18 → unsigned_abs w < 10 ^ 18 → unsigned_abs (made v w) < 10 ^ 18) →
        Comes most fuel N (Given n s n) (checked (a *ℤ pos (10 ^ ka)) >>= (λ v. checked (b *ℤ pos (10 ^ kb)) >>= (λ w. checked (made v w)))) (sum_block operator ca cb c ka kb n x y) s
    combines s ca cb c ka kb n x y a b left right fit_a fit_b below_x below_y low_a low_b room within_a within_b within =
        comes_then most fuel N (Given n s (brought_in ka n x)) (Given n s n) (checked (a *ℤ pos (10 ^ ka))) (λ v. checked (b *ℤ pos (10 ^ kb)) >>= (λ w. checked (made v w)))
        (bring_block ca ka n x) (seq (bring_block cb kb (n + 1) y) (seq (assign n (binop I64 operator (local (brought_in ka n x)) (local (brought_in kb (n + 1) y)))) (check_if c (10 ^ 18 - 1) n))) s
        (brings s s ca ka n x a (Kept-same n s) left fit_a low_a (omega arith) within_a)
        (λ v t is_v given.
        let many : length t.locals ≡ length s.locals = given.0.many in
        comes_then most fuel N (Given (n + 1) t (brought_in kb (n + 1) y)) (Given n s n) (checked (b *ℤ pos (10 ^ kb))) (λ w. checked (made v w))
        (bring_block cb kb (n + 1) y) (seq (assign n (binop I64 operator (local (brought_in ka n x)) (local (brought_in kb (n + 1) y)))) (check_if c (10 ^ 18 - 1) n)) t
        (brings t t cb kb (n + 1) y b (Kept-same (n + 1) t) (held_kept n s t y b given.0 below_y right) fit_b low_b (omega (arith, many)) within_b)
        (λ w u is_w other.
        makes_one s u c n (brought_in ka n x) (brought_in kb (n + 1) y) v w (Kept-then n (n + 1) s t u (omega arith) given.0 other.0)
        (held_kept (n + 1) t u (brought_in ka n x) v other.0 (in_below ka n x below_x) given.1) other.1 given.2 other.2 (omega (arith, many, other.0.many))
        (λ unchecked. within unchecked v w (size_of_brought a v ka is_v) (size_of_brought b w kb is_w) (fits_below v given.2) (fits_below w other.2))))
      where
        in_below : (k n x : ℕ) → x < n → brought_in k n x < n + 1
        in_below zero n x h = omega (arith, h)
        in_below (suc k) n x h = omega arith

        size_of_brought : (a v : ℤ) (k : ℕ) → checked (a *ℤ pos (10 ^ k)) ≡ Ok v → unsigned_abs v ≡ unsigned_abs a * 10 ^ k
        size_of_brought a v k is = ⊎_elim
            (λ less. ap unsigned_abs (same_ok (sym is ∙ checked_in (a *ℤ pos (10 ^ k)) less)) ∙ scaled_abs a k)
            (λ more. absurd (no_ok (sym is ∙ checked_past (a *ℤ pos (10 ^ k)) more)))
            (cases_lt (unsigned_abs (a *ℤ pos (10 ^ k))) (10 ^ 18))

  -- ---- opposites
  pub opposes : (s0 s : LowState) (n x : ℕ) (a : ℤ) → Kept n s0 s → HoldsNumber s x a → IsTrue (fits a) → n < length s.locals → Comes most fuel N (Given n s0 n) (Ok (neg_ℤ a)) (opposite_block n x) s
  opposes s0 s n x a kept holds fit room =
      let turned : pos 0 -ℤ a ≡ neg_ℤ a = omega (arith, ints) in
      let size : unsigned_abs (neg_ℤ a) < 10 ^ 18 = omega (arith, ints, fits_below a fit) in
      let fit_neg : FitsSigned w64 (pos 0 -ℤ a) = rw turned (small (neg_ℤ a) (omega (arith, size))) in
      sets s0 s n (binop I64 Sub (i64 0) (local x)) (neg_ℤ a) kept
      (rw (held_word s x a holds) (ap (λ (m : ℕ). Some (Number m)) (word-sub (pos 0) a (small (pos 0) (omega arith)) (fits_small a fit) fit_neg ∙ ap word turned)))
      (below_fits (neg_ℤ a) size) room

  -- ---- products
  multiplies : (s0 s : LowState) (n x y : ℕ) (a b : ℤ) → Kept n s0 s → HoldsNumber s x a → HoldsNumber s y b → IsTrue (fits a) → IsTrue (fits b) → n < length s.locals → unsigned_abs a * unsigned_abs b < 10 ^ 18 →
      Comes most fuel N (Given n s0 n) (Ok (a *ℤ b)) (assign n (binop I64 Mul (local x) (local y))) s
  multiplies s0 s n x y a b kept left right fit_a fit_b room within =
      let size : unsigned_abs (a *ℤ b) < 10 ^ 18 = omega (arith, unsigned_abs-mul a b) in
      sets s0 s n (binop I64 Mul (local x) (local y)) (a *ℤ b) kept
      (rw (held_word s x a left, held_word s y b right) (ap (λ (m : ℕ). Some (Number m)) (word-mul a b (fits_small a fit_a) (fits_small b fit_b) (small (a *ℤ b) (omega (arith, size))))))
      (below_fits (a *ℤ b) size) room

  -- the magnitude of a number in place of it
  magnifies : (s0 s : LowState) (n : ℕ) (z : ℤ) → Kept n s0 s → HoldsNumber s n z → IsTrue (fits z) → n < length s.locals →
      Comes most fuel N (Given n s0 n) (Ok (pos (unsigned_abs z))) (conditional (relop I64 (Lt Signed) (local n) (i64 0)) (opposite_block n n) skip) s
  magnifies s0 s n z kept holds fit room =
      comes_choose most fuel N some (Given n s0 n) (Ok (pos (unsigned_abs z))) (relop I64 (Lt Signed) (local n) (i64 0)) (int_lt z (pos 0)) (opposite_block n n) skip s
      (rw (held_word s n z holds, word_back z (fits_small z fit)) refl)
      (λ less. subst (λ (w : ℤ). Comes most fuel N (Given n s0 n) (Ok w) (opposite_block n n) s) (turned_is z less) (opposes s0 s n n z kept holds fit room))
      (λ more. comes_skip most fuel N some (Given n s0 n) (pos (unsigned_abs z)) s
      (kept, subst (λ (w : ℤ). HoldsNumber s n w) (unturned_is z more) holds, subst (λ (w : ℤ). IsTrue (fits w)) (unturned_is z more) fit))

  module _ (s : LowState) (n x y : ℕ) (a b : ℤ) (left : HoldsNumber s x a) (right : HoldsNumber s y b) (fit_a : IsTrue (fits a)) (fit_b : IsTrue (fits b)) (below_x : x < n) (below_y : y < n) (room : n < length s.locals) where
    abbrev greatest : ℕ
    greatest = (10 ^ 18 - 1) / unsigned_abs a

    abbrev tested : Statement
    tested = seq (conditional (relop I64 (Gt Unsigned) (binop I64 Add (local y) (local n)) (binop I64 Add (local n) (local n))) (raise 2) skip) (assign n (binop I64 Mul (local x) (local y)))

    tests_right : (u : LowState) → Kept n s u → HoldsNumber u n (pos greatest) → 1 ≤ unsigned_abs a → Comes most fuel N (Given n s n) (checked (a *ℤ b)) tested u
    tests_right u kept holds positive =
        let many : length u.locals ≡ length s.locals = kept.many in
        let limit : greatest < 2 ^ 62 = omega (arith, div-le_self (10 ^ 18 - 1) (unsigned_abs a)) in
        let whole : (greatest + greatest) % 2 ^ 64 ≡ greatest + greatest = omega (arith, limit) in
        let left' = held_kept n s u x a kept below_x left in
        let right' = held_kept n s u y b kept below_y right in
        subst (λ (r : Result ℤ Code). Comes most fuel N (Given n s n) r tested u)
        (tested_product a b (unsigned_abs b) (unsigned_abs a) (unsigned_abs-mul a b ∙ mul_comm (unsigned_abs a) (unsigned_abs b)) positive)
        (comes_unless most fuel N some (Given n s n) (Ok (a *ℤ b)) (relop I64 (Gt Unsigned) (binop I64 Add (local y) (local n)) (binop I64 Add (local n) (local n))) (nat_lt greatest (unsigned_abs b)) OutOfRange
        (assign n (binop I64 Mul (local x) (local y))) u
        (rw (held_word u y b right', held_word u n (pos greatest) holds, whole, past_limit b greatest (omega (arith, fits_below b fit_b)) limit) refl)
        (λ below. multiplies s u n x y a b kept left' right' fit_a fit_b (omega (arith, many))
        (omega (arith, mul_comm (unsigned_abs a) (unsigned_abs b), product_in (unsigned_abs b) (unsigned_abs a) positive (ltb-false greatest (unsigned_abs b) below)))))

    multiplies_checked : Comes most fuel N (Given n s n) (product_of a b) (checked_product n x y) s
    multiplies_checked =
        comes_choose most fuel N some (Given n s n) (product_of a b) (is_zero I64 (local x)) (unsigned_abs a == 0) (assign n (i64 0))
        (seq (assign n (divop I64 (Div Signed) (i64 (10 ^ 18 - 1)) (local x))) (seq (conditional (relop I64 (Lt Signed) (local n) (i64 0)) (opposite_block n n) skip) tested)) s
        (rw (held_word s x a left, word_zero a (fits_small a fit_a)) refl)
        (λ none.
        let zeroth : unsigned_abs a ≡ 0 = eqb-true (unsigned_abs a) 0 none in
        let size : unsigned_abs (a *ℤ b) ≡ 0 = unsigned_abs-mul a b ∙ ap (λ (m : ℕ). m * unsigned_abs b) zeroth ∙ nothing (unsigned_abs b) in
        let is : a *ℤ b ≡ pos 0 = zero_abs (a *ℤ b) size in
        rw is (sets s s n (i64 0) (pos 0) (Kept-same n s) refl (below_fits (pos 0) (omega arith)) room))
        (λ one.
        let positive : 1 ≤ unsigned_abs a = at_least_one one in
        let q : ℤ = int_div (pos (10 ^ 18 - 1)) a in
        let small_q : unsigned_abs q < 10 ^ 18 = omega (arith, quotient_abs (10 ^ 18 - 1) a, div-le_self (10 ^ 18 - 1) (unsigned_abs a)) in
        let after : LowState = record s { locals = slice_set s.locals n (Number (word q)) } in
        comes_set most fuel N some (Given n s n) (product_of a b) n (divop I64 (Div Signed) (i64 (10 ^ 18 - 1)) (local x)) (Number (word q))
        (seq (conditional (relop I64 (Lt Signed) (local n) (i64 0)) (opposite_block n n) skip) tested) s
        (rw (held_word s x a left, word-div (pos (10 ^ 18 - 1)) a (omega arith) (fits_small a fit_a) (λ e. omega (arith, positive, e))) refl) room
        (comes_then most fuel N (Given n s n) (Given n s n) (Ok (pos (unsigned_abs q))) (λ m. product_of a b) (conditional (relop I64 (Lt Signed) (local n) (i64 0)) (opposite_block n n) skip) tested after
        (magnifies s after n q (Kept-one s n (Number (word q))) (word_held after n q (small q (omega (arith, small_q))) (slice_get-set_same s.locals n (Number (word q)) room)) (below_fits q small_q) (omega (arith, room, length-set s.locals n (Number (word q)))))
        (λ m u is_m given. tests_right u given.0 (subst (λ (w : ℤ). HoldsNumber u n w) (sym (same_ok is_m) ∙ ap pos (quotient_abs (10 ^ 18 - 1) a)) given.1) positive)))
      where
        nothing : (m : ℕ) → 0 * m ≡ 0
        nothing m = omega arith

        at_least_one : (unsigned_abs a == 0) ≡ false → 1 ≤ unsigned_abs a
        at_least_one h = ⊎_elim (λ e. absurd (bad (sym (eq-eqb (unsigned_abs a) 0 e) ∙ h))) (λ ne. omega (arith, ne)) (cases_eq (unsigned_abs a) 0)
          where
            bad : true ≡ false → ⊥
            bad e = absurd cc

    pub multiplies_both : (c : Bool) → (c ≡ false → unsigned_abs a * unsigned_abs b < 10 ^ 18) → Comes most fuel N (Given n s n) (product_of a b) (product_block c n x y) s
    multiplies_both false within =
        rw (checked_in (a *ℤ b) (omega (arith, unsigned_abs-mul a b, within refl))) (multiplies s s n x y a b (Kept-same n s) left right fit_a fit_b room (within refl))
    multiplies_both true within = multiplies_checked

    -- ---- quotients
    pub divides : (c : Bool) (k : ℕ) → k ≤ 18 → (c ≡ false → unsigned_abs a * 10 ^ k < 10 ^ 18) →
        Comes most fuel N (Given n s n) (if unsigned_abs b == 0 then Err DivZero else checked (a *ℤ pos (10 ^ k)) >>= (λ v. Ok (int_div v b))) (quotient_block c k n x y) s
    divides c k low within =
        comes_unless most fuel N some (Given n s n) (checked (a *ℤ pos (10 ^ k)) >>= (λ v. Ok (int_div v b))) (is_zero I64 (local y)) (unsigned_abs b == 0) DivZero
        (seq (bring_block c k n x) (assign n (divop I64 (Div Signed) (local (brought_in k n x)) (local y)))) s
        (rw (held_word s y b right, word_zero b (fits_small b fit_b)) refl)
        (λ nonzero. comes_then most fuel N (Given n s (brought_in k n x)) (Given n s n) (checked (a *ℤ pos (10 ^ k))) (λ v. Ok (int_div v b)) (bring_block c k n x) (assign n (divop I64 (Div Signed) (local (brought_in k n x)) (local y))) s
        (brings s s c k n x a (Kept-same n s) left fit_a low room within)
        (λ v t is_v given.
        let many : length t.locals ≡ length s.locals = given.0.many in
        let small_v : unsigned_abs v < 10 ^ 18 = fits_below v given.2 in
        sets s t n (divop I64 (Div Signed) (local (brought_in k n x)) (local y)) (int_div v b) given.0
        (rw (held_word t (brought_in k n x) v given.1, held_word t y b (held_kept n s t y b given.0 below_y right), word-div v b (omega (arith, small_v)) (fits_small b fit_b) (λ e. differ (eq-eqb (unsigned_abs b) 0 e) nonzero)) refl)
        (below_fits (int_div v b) (quotient_below v b (10 ^ 18) small_v)) (omega (arith, many))))
      where
        differ : (unsigned_abs b == 0) ≡ true → (unsigned_abs b == 0) ≡ false → ⊥
        differ e f = absurd cc
