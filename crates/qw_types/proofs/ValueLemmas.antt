-- Laws of truth, and comparison by exact value against comparison at the larger scale.
use Rattle.std.proofs.Common.{zero, suc, negsuc, neg_ℤ, int_cmp, Ordering, ◌≡◌, ℕ, ◌+◌, ◌*◌, ◌-◌, ◌<◌, ◌≤◌, ◌^◌, ℤ, pos, ◌*ℤ◌, ◌<ℤ◌, max, Ok, arith, refl, sym, ap, ◌∙◌}
use Rattle.std.specs.Ordering.{MatchOrdering}
use Rattle.std.specs.declared.cmp.Ordering.TheVariants.{Less, Equal, Greater}
use Rattle.std.specs.Cmp.{int_cmp_is, int_ranks}
use Rattle.std.proofs.lemmas.Int.{ints}
use Rattle.std.proofs.Math.Nat.{mul_assoc, mul_comm, pow-le-pow_right, mul-lt-mul_of_pos_right}
use Rattle.std.proofs.lemmas.Nat.{pow-add}
use mathlib.Core.Path.{ap₂}
use borrow.Author.Differences.{up, down, product_is}
use Rattle.qw_types.specs.Arithmetic.{bring, order_of}
use Rattle.qw_types.specs.Truth.{conjunction, disjunction, negation}
use Rattle.qw_types.specs.declared.truth.Truth.{Truth}
use Rattle.qw_types.specs.declared.truth.Truth.TheVariants.{True, False, Unknown}
use Rattle.qw_types.proofs.ArithmeticLemmas.{checked_is}

pub and_commutes : (a b : Truth) → conjunction a b ≡ conjunction b a
and_commutes True True = refl
and_commutes True False = refl
and_commutes True Unknown = refl
and_commutes False True = refl
and_commutes False False = refl
and_commutes False Unknown = refl
and_commutes Unknown True = refl
and_commutes Unknown False = refl
and_commutes Unknown Unknown = refl

pub negated_and : (a b : Truth) → negation (conjunction a b) ≡ disjunction (negation a) (negation b)
negated_and True b = refl
negated_and False b = refl
negated_and Unknown True = refl
negated_and Unknown False = refl
negated_and Unknown Unknown = refl

pub negated_twice : (a : Truth) → negation (negation a) ≡ a
negated_twice True = refl
negated_twice False = refl
negated_twice Unknown = refl

pub and_associates : (a b c : Truth) → conjunction (conjunction a b) c ≡ conjunction a (conjunction b c)
and_associates True b c = refl
and_associates False b c = refl
and_associates Unknown True c = refl
and_associates Unknown False c = refl
and_associates Unknown Unknown True = refl
and_associates Unknown Unknown False = refl
and_associates Unknown Unknown Unknown = refl

-- OR is AND under NOT, so its laws are those of AND
or_is : (a b : Truth) → disjunction a b ≡ negation (conjunction (negation a) (negation b))
or_is True b = refl
or_is False b = sym (negated_twice b)
or_is Unknown True = refl
or_is Unknown False = refl
or_is Unknown Unknown = refl

pub negated_or : (a b : Truth) → negation (disjunction a b) ≡ conjunction (negation a) (negation b)
negated_or a b = ap negation (or_is a b) ∙ negated_twice (conjunction (negation a) (negation b))

pub or_commutes : (a b : Truth) → disjunction a b ≡ disjunction b a
or_commutes a b = or_is a b ∙ ap negation (and_commutes (negation a) (negation b)) ∙ sym (or_is b a)

pub or_associates : (a b c : Truth) → disjunction (disjunction a b) c ≡ disjunction a (disjunction b c)
or_associates a b c =
    or_is (disjunction a b) c
    ∙ ap (λ t. negation (conjunction t (negation c))) (negated_or a b)
    ∙ ap negation (and_associates (negation a) (negation b) (negation c))
    ∙ ap (λ t. negation (conjunction (negation a) t)) (sym (negated_or b c))
    ∙ sym (or_is a (disjunction b c))

-- a product with a positive number keeps the order
times_less : (x y : ℤ) (k : ℕ) → 0 < k → x <ℤ y → (x *ℤ pos k) <ℤ (y *ℤ pos k)
times_less x y k positive less =
    let more : (up x + down y) * k < (up y + down x) * k = mul-lt-mul_of_pos_right (omega (arith, ints)) positive in
    omega (arith, ints, product_is x (pos k), product_is y (pos k), more)

order_facts : {P Q R P' Q' R' : Type 0} (r : Ordering) → (P → P') → (Q → Q') → (R → R') → MatchOrdering r P Q R → MatchOrdering r P' Q' R'
order_facts Less p q r m = p m
order_facts Equal p q r m = q m
order_facts Greater p q r m = r m

times_order : (x y : ℤ) (k : ℕ) → 0 < k → int_cmp (x *ℤ pos k) (y *ℤ pos k) ≡ int_cmp x y
times_order x y k positive =
    sym (int_cmp_is (x *ℤ pos k) (y *ℤ pos k) (int_cmp x y)
    (order_facts (int_cmp x y) (times_less x y k positive) (ap (λ z. z *ℤ pos k)) (times_less y x k positive) (int_ranks x y)))

times_times : (a : ℤ) (m n : ℕ) → a *ℤ pos m *ℤ pos n ≡ a *ℤ pos (m * n)
times_times (pos a) m n = ap pos (mul_assoc a m n)
times_times (negsuc a) m n = negated_times (suc a * m) n ∙ ap (λ x. neg_ℤ (pos x)) (mul_assoc (suc a) m n)
  where
    negated_times : (q n : ℕ) → neg_ℤ (pos q) *ℤ pos n ≡ neg_ℤ (pos (q * n))
    negated_times zero n =
        let none : 0 * n ≡ 0 = omega arith in
        rw none refl
    negated_times (suc q) n = refl

power_positive : (n : ℕ) → 0 < 10 ^ n
power_positive n =
    let base : 0 < 10 = omega arith in
    let up_to : 0 ≤ n = omega arith in
    let least : 10 ^ 0 ≤ 10 ^ n = pow-le-pow_right base up_to in
    omega arith

-- both values at one scale, from the products that are compared
brought_order : (a b x y : ℤ) (sa sb da db : ℕ) → sa + da ≡ sb + db → x ≡ a *ℤ pos (10 ^ da) → y ≡ b *ℤ pos (10 ^ db) → order_of a sa b sb ≡ int_cmp x y
brought_order a b x y sa sb da db same ex ey =
    sym (times_order (a *ℤ pos (10 ^ sb)) (b *ℤ pos (10 ^ sa)) (10 ^ da) (power_positive da))
    ∙ ap₂ int_cmp left right
    ∙ times_order x y (10 ^ sb) (power_positive sb)
  where
    left : a *ℤ pos (10 ^ sb) *ℤ pos (10 ^ da) ≡ x *ℤ pos (10 ^ sb)
    left = times_times a (10 ^ sb) (10 ^ da) ∙ ap (λ n. a *ℤ pos n) (mul_comm (10 ^ sb) (10 ^ da)) ∙ sym (times_times a (10 ^ da) (10 ^ sb)) ∙ ap (λ z. z *ℤ pos (10 ^ sb)) (sym ex)

    right : b *ℤ pos (10 ^ sa) *ℤ pos (10 ^ da) ≡ y *ℤ pos (10 ^ sb)
    right = times_times b (10 ^ sa) (10 ^ da) ∙ ap (λ n. b *ℤ pos n) (sym (pow-add 10 sa da) ∙ ap (λ n. 10 ^ n) same ∙ pow-add 10 sb db ∙ mul_comm (10 ^ sb) (10 ^ db)) ∙ sym (times_times b (10 ^ db) (10 ^ sb)) ∙ ap (λ z. z *ℤ pos (10 ^ sb)) (sym ey)

pub order_by_bringing : (a b x y : ℤ) (sa sb : ℕ) → bring a sa (max sa sb) ≡ Ok x → bring b sb (max sa sb) ≡ Ok y → order_of a sa b sb ≡ int_cmp x y
order_by_bringing a b x y sa sb ex ey =
    brought_order a b x y sa sb (max sa sb - sa) (max sa sb - sb) (omega arith)
    (checked_is (a *ℤ pos (10 ^ (max sa sb - sa))) x (sym ex)) (checked_is (b *ℤ pos (10 ^ (max sa sb - sb))) y (sym ey))
