-- What a literal that is brought to a scale changes where it stands: nothing, beside a number of that scale.
use Rattle.std.proofs.Common.{◌≡◌, ℕ, ℤ, zero, suc, pos, negsuc, neg_ℤ, ◌+◌, ◌-◌, ◌*◌, ◌^◌, ◌≤◌, ◌<◌, ◌*ℤ◌, ◌<ℤ◌, max, IsTrue, Result, Ok, int_cmp, Ordering, refl, sym, ap, ◌∙◌, arith}
use mathlib.Core.Path.{ap₂}
use borrow.Author.Differences.{up, down, product_is}
use Rattle.std.proofs.Math.Nat.{mul_assoc, mul_comm, pow-le-pow_right, mul-lt-mul_of_pos_right}
use Rattle.std.proofs.lemmas.Bool.Decides.{nat_tests}
use Rattle.std.proofs.lemmas.Int.{ints}
use Rattle.std.proofs.lemmas.Nat.{pow-add}
use Rattle.std.specs.Cmp.{int_cmp_is, int_ranks}
use Rattle.std.specs.Ordering.{MatchOrdering}
use Rattle.std.specs.declared.cmp.Ordering.TheVariants as order
use Rattle.qw_types.specs.Arithmetic.{bring, checked, difference_of, fits, order_of, sum_of}
use Rattle.qw_types.specs.declared.code.Code.{Code}

checked_fits : (x : ℤ) → IsTrue (fits x) → ◌≡◌ {A = Result ℤ Code} (checked x) (Ok x)
checked_fits x h = grind (arith, nat_tests, h)

checked_is : (v x : ℤ) → ◌≡◌ {A = Result ℤ Code} (checked v) (Ok x) → x ≡ v
checked_is v x e = grind (arith, nat_tests)

pub brought_is : (v w : ℤ) (t s : ℕ) → bring v t s ≡ Ok w → w ≡ v *ℤ pos (10 ^ (s - t))
brought_is v w t s e = checked_is (v *ℤ pos (10 ^ (s - t))) w e

times_one : (w : ℤ) → w *ℤ pos 1 ≡ w
times_one w = grind (arith, ints)

-- a value that was brought stays where it is
pub brought_again : (w : ℤ) (s : ℕ) → IsTrue (fits w) → ◌≡◌ {A = Result ℤ Code} (bring w s s) (Ok w)
brought_again w s h =
    let none : s - s ≡ 0 = omega arith in
    let same : w *ℤ pos (10 ^ (s - s)) ≡ w = ap (λ n. w *ℤ pos (10 ^ n)) none ∙ times_one w in
    ap checked same ∙ checked_fits w h

-- a product with a positive number keeps the order
times_less : (x y : ℤ) (k : ℕ) → 0 < k → x <ℤ y → (x *ℤ pos k) <ℤ (y *ℤ pos k)
times_less x y k positive less =
    let more : (up x + down y) * k < (up y + down x) * k = mul-lt-mul_of_pos_right (omega (arith, ints)) positive in
    omega (arith, ints, product_is x (pos k), product_is y (pos k), more)

order_facts : {P Q R P' Q' R' : Type 0} (r : Ordering) → (P → P') → (Q → Q') → (R → R') → MatchOrdering r P Q R → MatchOrdering r P' Q' R'
order_facts order.Less p q r m = p m
order_facts order.Equal p q r m = q m
order_facts order.Greater p q r m = r m

times_order : (x y : ℤ) (k : ℕ) → 0 < k → int_cmp (x *ℤ pos k) (y *ℤ pos k) ≡ int_cmp x y
times_order x y k positive =
    sym (int_cmp_is (x *ℤ pos k) (y *ℤ pos k) (int_cmp x y)
    (order_facts (int_cmp x y) (times_less x y k positive) (ap (λ z. z *ℤ pos k)) (times_less y x k positive) (int_ranks x y)))

times_times : (a : ℤ) (m n : ℕ) → a *ℤ pos m *ℤ pos n ≡ a *ℤ pos (m * n)
times_times (pos a) m n = ap pos (mul_assoc a m n)
times_times (negsuc a) m n = negated_times (suc a * m) n ∙ ap (λ x. neg_ℤ (pos x)) (mul_assoc (suc a) m n)
  where
    negated_times : (q n : ℕ) → neg_ℤ (pos q) *ℤ pos n ≡ neg_ℤ (pos (q * n))
    negated_times zero n =
        let none : 0 * n ≡ 0 = omega arith in
        rw none refl
    negated_times (suc q) n = refl

power_positive : (n : ℕ) → 0 < 10 ^ n
power_positive n =
    let base : 0 < 10 = omega arith in
    let up_to : 0 ≤ n = omega arith in
    let least : 10 ^ 0 ≤ 10 ^ n = pow-le-pow_right base up_to in
    omega arith

-- a number beside a literal at both scales, multiplied to the larger one
powers_meet : (a : ℤ) (t s : ℕ) → t ≤ s → a *ℤ pos (10 ^ t) *ℤ pos (10 ^ (s - t)) ≡ a *ℤ pos (10 ^ s)
powers_meet a t s up =
    let whole : t + (s - t) ≡ s = omega arith in
    times_times a (10 ^ t) (10 ^ (s - t)) ∙ ap (λ n. a *ℤ pos n) (sym (pow-add 10 t (s - t)) ∙ ap (λ n. 10 ^ n) whole)

literal_meets : (v w : ℤ) (t s sa : ℕ) → w ≡ v *ℤ pos (10 ^ (s - t)) → v *ℤ pos (10 ^ sa) *ℤ pos (10 ^ (s - t)) ≡ w *ℤ pos (10 ^ sa)
literal_meets v w t s sa is =
    times_times v (10 ^ sa) (10 ^ (s - t)) ∙ ap (λ n. v *ℤ pos n) (mul_comm (10 ^ sa) (10 ^ (s - t)))
    ∙ sym (times_times v (10 ^ (s - t)) (10 ^ sa)) ∙ ap (λ z. z *ℤ pos (10 ^ sa)) (sym is)

pub order_right : (a v w : ℤ) (sa t s : ℕ) → t ≤ s → bring v t s ≡ Ok w → order_of a sa v t ≡ order_of a sa w s
order_right a v w sa t s up e =
    sym (times_order (a *ℤ pos (10 ^ t)) (v *ℤ pos (10 ^ sa)) (10 ^ (s - t)) (power_positive (s - t)))
    ∙ ap₂ int_cmp (powers_meet a t s up) (literal_meets v w t s sa (brought_is v w t s e))

pub order_left : (b v w : ℤ) (sb t s : ℕ) → t ≤ s → bring v t s ≡ Ok w → order_of v t b sb ≡ order_of w s b sb
order_left b v w sb t s up e =
    sym (times_order (v *ℤ pos (10 ^ sb)) (b *ℤ pos (10 ^ t)) (10 ^ (s - t)) (power_positive (s - t)))
    ∙ ap₂ int_cmp (literal_meets v w t s sb (brought_is v w t s e)) (powers_meet b t s up)

pub sum_right : (a v w : ℤ) (t s : ℕ) → t ≤ s → IsTrue (fits w) → bring v t s ≡ Ok w → sum_of a s v t ≡ sum_of a s w s
sum_right a v w t s up h e =
    let one : max s t ≡ s = omega arith in
    let two : max s s ≡ s = omega arith in
    rw (one, two, e, brought_again w s h) refl

pub sum_left : (b v w : ℤ) (t s : ℕ) → t ≤ s → IsTrue (fits w) → bring v t s ≡ Ok w → sum_of v t b s ≡ sum_of w s b s
sum_left b v w t s up h e =
    let one : max t s ≡ s = omega arith in
    let two : max s s ≡ s = omega arith in
    rw (one, two, e, brought_again w s h) refl

pub difference_right : (a v w : ℤ) (t s : ℕ) → t ≤ s → IsTrue (fits w) → bring v t s ≡ Ok w → difference_of a s v t ≡ difference_of a s w s
difference_right a v w t s up h e =
    let one : max s t ≡ s = omega arith in
    let two : max s s ≡ s = omega arith in
    rw (one, two, e, brought_again w s h) refl

pub difference_left : (b v w : ℤ) (t s : ℕ) → t ≤ s → IsTrue (fits w) → bring v t s ≡ Ok w → difference_of v t b s ≡ difference_of w s b s
difference_left b v w t s up h e =
    let one : max t s ≡ s = omega arith in
    let two : max s s ≡ s = omega arith in
    rw (one, two, e, brought_again w s h) refl
