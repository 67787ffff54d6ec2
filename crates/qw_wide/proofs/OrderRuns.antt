-- What the comparison of numbers at unlike scales comes to.
use Rattle.std.proofs.Common.{◌≡◌, ◌≢◌, ℕ, zero, suc, ◌+◌, ◌*◌, ◌^◌, ◌<◌, ◌≤◌, ◌==◌, Bool, true, false, ℤ, pos, negsuc, ◌+ℤ◌, ◌-ℤ◌, ◌*ℤ◌, ◌<ℤ◌, int_cmp, int_div, int_rem, unsigned_abs, FitsSigned, neg_ℤ, IsTrue, Ordering, length, length-set, Some, Ok, slice_set, refl, sym, ap, ◌∙◌, arith, w64}
use Rattle.std.specs.Ordering.{MatchOrdering}
use Rattle.std.specs.declared.cmp.Ordering.TheVariants.{Less, Equal, Greater}
use Rattle.std.specs.Cmp.{int_cmp_is, int_ranks}
use Rattle.std.proofs.lemmas.Bool.{eqb-true, eq-eqb}
use Rattle.std.proofs.lemmas.Int.{ints, quot-rem, rem_below}
use Rattle.std.proofs.lemmas.Nat.{mul-le, pow-add}
use Rattle.std.proofs.Math.Nat.{mul_assoc, mul-lt-mul_of_pos_right}
use borrow.Author.Differences.{up, down, product_is}
use Rattle.qw_types.specs.Arithmetic.{fits, order_of}
use Rattle.qw_map.proofs.TurnFacts.{slice_get-set_same}
use Rattle.qw_module.specs.declared.instruction.ValType.TheVariants.{I64}
use Rattle.qw_module.specs.declared.instruction.Sign.TheVariants.{Signed}
use Rattle.qw_module.specs.declared.instruction.Binary.TheVariants.{Sub}
use Rattle.qw_module.specs.declared.instruction.Division.TheVariants.{Div, Rem}
use Rattle.qw_low.specs.Syntax.{local, binop, divop, is_zero, skip, assign, conditional}
use Rattle.qw_low.specs.State.{Number, LowState}
use Rattle.qw_low.specs.Raising.{Kept}
use Rattle.qw_low.specs.Held.{HoldsNumber}
use Rattle.qw_low.proofs.Results.{Kept-same, Kept-set, Kept-one, Comes, comes_skip, comes_assign, comes_set, comes_choose}
use Rattle.qw_wide.specs.Inner.Blocks.{i64, left_brought, right_brought}
use Rattle.qw_wide.proofs.Words.{word, small, fits_below, fits_small, word-sub, word_zero, quotient_below, word-div, word-rem, held_word, word_held}
use Rattle.qw_wide.proofs.ArithmeticRuns.{held_kept, power_small, power_some}

-- ---- numbers and quotients
-- below a quotient, below the dividend
under : (a q w r : ℤ) (p : ℕ) → q *ℤ pos p +ℤ r ≡ w → unsigned_abs r < p → a <ℤ q → (a *ℤ pos p) <ℤ w
under a q w r p whole rest less =
    let step : up a + down q + 1 ≤ up q + down a = omega (arith, ints) in
    let more : (up a + down q + 1) * p ≤ (up q + down a) * p = mul-le (up a + down q + 1) p (up q + down a) p step (omega arith) in
    omega (arith, ints, product_is a (pos p), product_is q (pos p), more)

above : (a q w r : ℤ) (p : ℕ) → q *ℤ pos p +ℤ r ≡ w → unsigned_abs r < p → q <ℤ a → w <ℤ (a *ℤ pos p)
above a q w r p whole rest less =
    let step : up q + down a + 1 ≤ up a + down q = omega (arith, ints) in
    let more : (up q + down a + 1) * p ≤ (up a + down q) * p = mul-le (up q + down a + 1) p (up a + down q) p step (omega arith) in
    omega (arith, ints, product_is a (pos p), product_is q (pos p), more)

order_facts : {P Q R P' Q' R' : Type 0} (r : Ordering) → (P → P') → (Q → Q') → (R → R') → MatchOrdering r P Q R → MatchOrdering r P' Q' R'
order_facts Less p q r m = p m
order_facts Equal p q r m = q m
order_facts Greater p q r m = r m

-- one order is another where they agree both ways
pub same_order : (a b c d : ℤ) → (a <ℤ b → c <ℤ d) → (a ≡ b → c ≡ d) → (b <ℤ a → d <ℤ c) → int_cmp a b ≡ int_cmp c d
same_order a b c d less equal greater = int_cmp_is c d (int_cmp a b) (order_facts (int_cmp a b) less equal greater (int_ranks a b))

-- ---- the left operand at the right one's scale
left_apart : (a b : ℤ) (p : ℕ) → 1 ≤ p → unsigned_abs (a -ℤ int_div b (pos p)) ≢ 0 → int_cmp (a -ℤ int_div b (pos p)) (pos 0) ≡ int_cmp (a *ℤ pos p) b
left_apart a b p some apart =
    let q : ℤ = int_div b (pos p) in
    let r : ℤ = int_rem b (pos p) in
    let rest : unsigned_abs r < p = rem_below b (pos p) some in
    same_order (a -ℤ q) (pos 0) (a *ℤ pos p) b
    (λ less. under a q b r p (quot-rem b (pos p)) rest (omega (arith, ints)))
    (λ equal. absurd (apart (ap unsigned_abs equal)))
    (λ greater. above a q b r p (quot-rem b (pos p)) rest (omega (arith, ints)))

left_even : (a b : ℤ) (p : ℕ) → unsigned_abs (a -ℤ int_div b (pos p)) ≡ 0 → int_cmp (pos 0 -ℤ int_rem b (pos p)) (pos 0) ≡ int_cmp (a *ℤ pos p) b
left_even a b p even =
    let q : ℤ = int_div b (pos p) in
    let r : ℤ = int_rem b (pos p) in
    let same : q ≡ a = omega (arith, ints, even) in
    let whole : a *ℤ pos p +ℤ r ≡ b = rw (sym same) (quot-rem b (pos p)) in
    same_order (pos 0 -ℤ r) (pos 0) (a *ℤ pos p) b (λ less. omega (arith, ints, whole)) (λ equal. omega (arith, ints, whole)) (λ greater. omega (arith, ints, whole))

-- ---- the right operand at the left one's scale
right_apart : (a b : ℤ) (p : ℕ) → 1 ≤ p → unsigned_abs (int_div a (pos p) -ℤ b) ≢ 0 → int_cmp (int_div a (pos p) -ℤ b) (pos 0) ≡ int_cmp a (b *ℤ pos p)
right_apart a b p some apart =
    let q : ℤ = int_div a (pos p) in
    let r : ℤ = int_rem a (pos p) in
    let rest : unsigned_abs r < p = rem_below a (pos p) some in
    same_order (q -ℤ b) (pos 0) a (b *ℤ pos p)
    (λ less. above b q a r p (quot-rem a (pos p)) rest (omega (arith, ints)))
    (λ equal. absurd (apart (ap unsigned_abs equal)))
    (λ greater. under b q a r p (quot-rem a (pos p)) rest (omega (arith, ints)))

right_even : (a b : ℤ) (p : ℕ) → unsigned_abs (int_div a (pos p) -ℤ b) ≡ 0 → int_cmp (int_rem a (pos p)) (pos 0) ≡ int_cmp a (b *ℤ pos p)
right_even a b p even =
    let q : ℤ = int_div a (pos p) in
    let r : ℤ = int_rem a (pos p) in
    let same : q ≡ b = omega (arith, ints, even) in
    let whole : b *ℤ pos p +ℤ r ≡ a = rw (sym same) (quot-rem a (pos p)) in
    same_order r (pos 0) a (b *ℤ pos p) (λ less. omega (arith, ints, whole)) (λ equal. omega (arith, ints, whole)) (λ greater. omega (arith, ints, whole))

-- ---- as fractions
times_less : (x y : ℤ) (k : ℕ) → 1 ≤ k → x <ℤ y → (x *ℤ pos k) <ℤ (y *ℤ pos k)
times_less x y k positive less =
    let more : (up x + down y) * k < (up y + down x) * k = mul-lt-mul_of_pos_right (omega (arith, ints)) positive in
    omega (arith, ints, product_is x (pos k), product_is y (pos k), more)

times_order : (x y : ℤ) (k : ℕ) → 1 ≤ k → int_cmp x y ≡ int_cmp (x *ℤ pos k) (y *ℤ pos k)
times_order x y k positive = same_order x y (x *ℤ pos k) (y *ℤ pos k) (times_less x y k positive) (ap (λ z. z *ℤ pos k)) (times_less y x k positive)

times_times : (a : ℤ) (m n : ℕ) → a *ℤ pos m *ℤ pos n ≡ a *ℤ pos (m * n)
times_times (pos a) m n = ap pos (mul_assoc a m n)
times_times (negsuc a) m n = negated_times (suc a * m) n ∙ ap (λ x. neg_ℤ (pos x)) (mul_assoc (suc a) m n)
  where
    negated_times : (q n : ℕ) → neg_ℤ (pos q) *ℤ pos n ≡ neg_ℤ (pos (q * n))
    negated_times zero n =
        let none : 0 * n ≡ 0 = omega arith in
        rw none refl
    negated_times (suc q) n = refl

scales_apart : (a : ℤ) (k s : ℕ) → a *ℤ pos (10 ^ k) *ℤ pos (10 ^ s) ≡ a *ℤ pos (10 ^ (k + s))
scales_apart a k s = times_times a (10 ^ k) (10 ^ s) ∙ ap (λ n. a *ℤ pos n) (sym (pow-add 10 k s))

pub left_order : (a b : ℤ) (sa k : ℕ) → int_cmp (a *ℤ pos (10 ^ k)) b ≡ order_of a sa b (k + sa)
left_order a b sa k = times_order (a *ℤ pos (10 ^ k)) b (10 ^ sa) (power_some sa) ∙ ap (λ z. int_cmp z (b *ℤ pos (10 ^ sa))) (scales_apart a k sa)

pub right_order : (a b : ℤ) (sb k : ℕ) → int_cmp a (b *ℤ pos (10 ^ k)) ≡ order_of a (k + sb) b sb
right_order a b sb k = times_order a (b *ℤ pos (10 ^ k)) (10 ^ sb) (power_some sb) ∙ ap (λ z. int_cmp (a *ℤ pos (10 ^ sb)) z) (scales_apart b k sb)

pub same_scale : (a b : ℤ) (s : ℕ) → int_cmp a b ≡ order_of a s b s
same_scale a b s = times_order a b (10 ^ s) (power_some s)

-- ---- the blocks
-- a number is left whose sign is an order
abbrev pub Ordered : (n : ℕ) → LowState → Ordering → LowState → Type 0
Ordered n s order t = Kept n s t × (z : ℤ) × HoldsNumber t n z × (unsigned_abs z < 2 ^ 62) × (int_cmp z (pos 0) ≡ order)

remainder_small : (a : ℤ) (p : ℕ) → 1 ≤ p → p ≤ 10 ^ 18 → unsigned_abs (int_rem a (pos p)) < 10 ^ 18
remainder_small a p some most = omega (arith, rem_below a (pos p) some)

module _ (most fuel N : ℕ) (some : 1 ≤ N) (s : LowState) (n x y k : ℕ) (a b : ℤ) (left : HoldsNumber s x a) (right : HoldsNumber s y b) (fit_a : IsTrue (fits a)) (fit_b : IsTrue (fits b))
    (below_x : x < n) (below_y : y < n) (room : n < length s.locals) (low : k ≤ 18) where
  abbrev p : ℕ
  p = 10 ^ k

  power : FitsSigned w64 (pos p)
  power = small (pos p) (omega (arith, power_small k low))

  leaves : (t : LowState) (z : ℤ) (order : Ordering) → Kept n s t → unsigned_abs z < 2 ^ 62 → int_cmp z (pos 0) ≡ order → n < length t.locals → Ordered n s order (record t { locals = slice_set t.locals n (Number (word z)) })
  leaves t z order kept size is room_t = (
    Kept-set n s t n (Number (word z)) kept (omega arith),
    z,
    word_held (record t { locals = slice_set t.locals n (Number (word z)) }) n z (small z (omega (arith, size))) (slice_get-set_same t.locals n (Number (word z)) room_t),
    size,
    is,
  )

  pub orders_left : Comes most fuel N (Ordered n s) (Ok (int_cmp (a *ℤ pos (10 ^ k)) b)) (left_brought k n x y) s
  orders_left =
      let q : ℤ = int_div b (pos p) in
      let r : ℤ = int_rem b (pos p) in
      let z : ℤ = a -ℤ q in
      let order : Ordering = int_cmp (a *ℤ pos (10 ^ k)) b in
      let after : LowState = record s { locals = slice_set s.locals n (Number (word z)) } in
      let small_q : unsigned_abs q < 10 ^ 18 = quotient_below b (pos p) (10 ^ 18) (fits_below b fit_b) in
      let size : unsigned_abs z < 2 ^ 62 = omega (arith, ints, fits_below a fit_a, small_q) in
      let fit_z : FitsSigned w64 z = small z (omega (arith, size)) in
      let turned : unsigned_abs (pos 0 -ℤ r) < 2 ^ 62 = omega (arith, ints, remainder_small b p (power_some k) (power_small k low)) in
      comes_set most fuel N some (Ordered n s) (Ok order) n (binop I64 Sub (local x) (divop I64 (Div Signed) (local y) (i64 (10 ^ k)))) (Number (word z))
      (conditional (is_zero I64 (local n)) (assign n (binop I64 Sub (i64 0) (divop I64 (Rem Signed) (local y) (i64 (10 ^ k))))) skip) s
      (rw (held_word s x a left, held_word s y b right, word-div b (pos p) (omega (arith, fits_below b fit_b)) power (λ e. omega (arith, power_some k, e)))
      (ap (λ (m : ℕ). Some (Number m)) (word-sub a q (fits_small a fit_a) (small q (omega (arith, small_q))) fit_z))) room
      (comes_choose most fuel N some (Ordered n s) (Ok order) (is_zero I64 (local n)) (unsigned_abs z == 0) (assign n (binop I64 Sub (i64 0) (divop I64 (Rem Signed) (local y) (i64 (10 ^ k))))) skip after
      (rw (slice_get-set_same s.locals n (Number (word z)) room, word_zero z fit_z) refl)
      (λ even. comes_assign most fuel N some (Ordered n s) order n (binop I64 Sub (i64 0) (divop I64 (Rem Signed) (local y) (i64 (10 ^ k)))) (Number (word (pos 0 -ℤ r))) after
      (rw (held_word after y b (held_kept n s after y b (Kept-one s n (Number (word z))) below_y right), word-rem b (pos p) (fits_small b fit_b) power (λ e. omega (arith, power_some k, e)))
      (ap (λ (m : ℕ). Some (Number m)) (word-sub (pos 0) r (small (pos 0) (omega arith)) (small r (omega (arith, remainder_small b p (power_some k) (power_small k low)))) (small (pos 0 -ℤ r) (omega (arith, turned))))))
      (omega (arith, room, length-set s.locals n (Number (word z))))
      (leaves after (pos 0 -ℤ r) order (Kept-one s n (Number (word z))) turned (left_even a b p (eqb-true (unsigned_abs z) 0 even)) (omega (arith, room, length-set s.locals n (Number (word z))))))
      (λ apart. comes_skip most fuel N some (Ordered n s) order after (leaves s z order (Kept-same n s) size (left_apart a b p (power_some k) (λ e. differ (eq-eqb (unsigned_abs z) 0 e) apart)) room)))
    where
      differ : {g : Bool} → g ≡ true → g ≡ false → ⊥
      differ e f = absurd cc

  pub orders_right : Comes most fuel N (Ordered n s) (Ok (int_cmp a (b *ℤ pos (10 ^ k)))) (right_brought k n x y) s
  orders_right =
      let q : ℤ = int_div a (pos p) in
      let r : ℤ = int_rem a (pos p) in
      let z : ℤ = q -ℤ b in
      let order : Ordering = int_cmp a (b *ℤ pos (10 ^ k)) in
      let after : LowState = record s { locals = slice_set s.locals n (Number (word z)) } in
      let small_q : unsigned_abs q < 10 ^ 18 = quotient_below a (pos p) (10 ^ 18) (fits_below a fit_a) in
      let size : unsigned_abs z < 2 ^ 62 = omega (arith, ints, fits_below b fit_b, small_q) in
      let fit_z : FitsSigned w64 z = small z (omega (arith, size)) in
      let small_r : unsigned_abs r < 2 ^ 62 = omega (arith, remainder_small a p (power_some k) (power_small k low)) in
      comes_set most fuel N some (Ordered n s) (Ok order) n (binop I64 Sub (divop I64 (Div Signed) (local x) (i64 (10 ^ k))) (local y)) (Number (word z))
      (conditional (is_zero I64 (local n)) (assign n (divop I64 (Rem Signed) (local x) (i64 (10 ^ k)))) skip) s
      (rw (held_word s x a left, held_word s y b right, word-div a (pos p) (omega (arith, fits_below a fit_a)) power (λ e. omega (arith, power_some k, e)))
      (ap (λ (m : ℕ). Some (Number m)) (word-sub q b (small q (omega (arith, small_q))) (fits_small b fit_b) fit_z))) room
      (comes_choose most fuel N some (Ordered n s) (Ok order) (is_zero I64 (local n)) (unsigned_abs z == 0) (assign n (divop I64 (Rem Signed) (local x) (i64 (10 ^ k)))) skip after
      (rw (slice_get-set_same s.locals n (Number (word z)) room, word_zero z fit_z) refl)
      (λ even. comes_assign most fuel N some (Ordered n s) order n (divop I64 (Rem Signed) (local x) (i64 (10 ^ k))) (Number (word r)) after
      (rw (held_word after x a (held_kept n s after x a (Kept-one s n (Number (word z))) below_x left), word-rem a (pos p) (fits_small a fit_a) power (λ e. omega (arith, power_some k, e))) refl)
      (omega (arith, room, length-set s.locals n (Number (word z))))
      (leaves after r order (Kept-one s n (Number (word z))) small_r (right_even a b p (eqb-true (unsigned_abs z) 0 even)) (omega (arith, room, length-set s.locals n (Number (word z))))))
      (λ apart. comes_skip most fuel N some (Ordered n s) order after (leaves s z order (Kept-same n s) size (right_apart a b p (power_some k) (λ e. differ (eq-eqb (unsigned_abs z) 0 e) apart)) room)))
    where
      differ : {g : Bool} → g ≡ true → g ≡ false → ⊥
      differ e f = absurd cc
