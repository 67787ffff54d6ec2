-- What can't raise, as told from magnitudes, raises at no row whose values are in their types' ranges.
use Rattle.std.proofs.Common.{if◌then◌else◌, nat_le, [], ◌∷◌, ◌≡◌, ℕ, zero, suc, ◌+◌, ◌-◌, ◌*◌, ◌/◌, ◌^◌, ◌≤◌, ◌==◌, max, Bool, true, false, not, ◌||◌, ℤ, pos, negsuc, ◌+ℤ◌, ◌-ℤ◌, ◌*ℤ◌, neg_ℤ, unsigned_abs, int_div, IfOk, IsTrue, slice_get, List, Option, Some, None, Result, Ok, refl, subst, arith}
use Rattle.std.proofs.lemmas.Bool.Decides.{nat_tests}
use Rattle.std.proofs.lemmas.Int.{ints, unsigned_abs-mul}
use Rattle.std.proofs.Math.Nat.{div-le_self, mul-le-mul, mul-le-mul_right, one-le-pow, pow-le-pow_right}
use Rattle.qw_types.specs.Arithmetic.{◌>>=◌, bring, checked, fits}
use Rattle.qw_types.specs.Truth.{conjunction, disjunction, negation}
use Rattle.qw_types.specs.Kind.{IsDateNumber}
use Rattle.qw_types.proofs.KindLemmas.{day_number}
use Rattle.qw_types.specs.declared.code.Code.{Code}
use Rattle.qw_types.specs.declared.kind.Kind.{Kind}
use Rattle.qw_types.specs.declared.kind.Kind.TheVariants as kind
use Rattle.qw_types.specs.declared.truth.Truth.{Truth}
use Rattle.qw_types.specs.declared.truth.Truth.TheVariants.{True, False, Unknown}
use Rattle.qw_types.specs.declared.value.Val.{Val}
use Rattle.qw_types.specs.declared.value.Val.TheVariants.{Null, Num, Date, Text}
use Rattle.qw_scalar.specs.declared.expression.Operator.{Operator}
use Rattle.qw_scalar.specs.declared.expression.Operator.TheVariants.{Add, Subtract, Multiply, Divide}
use Rattle.qw_scalar.specs.declared.expression.Field.{Field}
use Rattle.qw_scalar.specs.declared.expression.Field.TheVariants.{Year, Month, Day}
use Rattle.qw_scalar.specs.Columns.{HasColumns, HaveColumns, HoldsIn, OperandsHave}
use Rattle.qw_scalar.specs.Typing.{AreTyped, IsTyped, IsValueOf, IsWithin, OperandsAreTyped, is_date, kind_of}
use Rattle.qw_scalar.proofs.ColumnLemmas.{columns_more}
use Rattle.qw_scalar.proofs.TypingLemmas.{typed_value}
use Rattle.qw_scalar.specs.Evaluation.{Scaled, answered, bounded, values_of, and_then, applied, as_number, at_row, cell_of, chosen, combined, compared, extracted, field_of, negated, or_else, raised, same_truth, tested, truth_if, truth_of, value_of}
use Rattle.qw_scalar.specs.Expression.{Expression, Condition, null, number, date, text, column, arithmetic, negative, extract, brought, choice, given, cell, comparison, predicate, both, either, negation_of, is, found, Operands, nil, operand, scale_of}
use Rattle.qw_raise.specs.Raise.{operands_can_raise, can_raise, capped, condition_can_raise, greatest, is_past, is_safe_divisor, magnitude, operator_raises, raw_bring, raw_result, raw_sum, sum_raises}
use Rattle.qw_raise.specs.Range.{IsInRange}

-- ---- numbers

below : (raw : ℕ) → is_past raw ≡ false → raw ≤ greatest
below raw h = grind (arith, nat_tests)

capped_is : (raw : ℕ) → raw ≤ greatest → capped raw ≡ raw
capped_is raw h = omega arith

checked_small : (v : ℤ) (raw : ℕ) → unsigned_abs v ≤ raw → raw ≤ greatest → checked v ≡ Ok v
checked_small v raw h g = grind (arith, nat_tests)

pub power_small : (k : ℕ) → k ≤ 18 → (1 ≤ 10 ^ k) × (10 ^ k ≤ 10 ^ 18)
power_small k h = (one-le-pow k 10 (omega arith), pow-le-pow_right (omega arith) h)

pub number_within : (v : ℤ) → IsTrue (fits v) → unsigned_abs v ≤ capped (unsigned_abs v)
number_within v h = grind (arith, nat_tests)

pub sum_abs : (x y : ℤ) → unsigned_abs (x +ℤ y) ≤ unsigned_abs x + unsigned_abs y
sum_abs x y = grind (arith, ints)

pub difference_abs : (x y : ℤ) → unsigned_abs (x -ℤ y) ≤ unsigned_abs x + unsigned_abs y
difference_abs x y = grind (arith, ints)

negated_abs : (x : ℤ) → unsigned_abs (neg_ℤ x) ≡ unsigned_abs x
negated_abs (pos zero) = refl
negated_abs (pos (suc n)) = refl
negated_abs (negsuc n) = refl

negated_pos : (n : ℕ) → unsigned_abs (neg_ℤ (pos n)) ≡ n
negated_pos zero = refl
negated_pos (suc n) = refl

pub quotient_abs : (a d : ℤ) → unsigned_abs (int_div a d) ≤ unsigned_abs a
quotient_abs (pos a) (pos b) = omega (arith, div-le_self a b)
quotient_abs (pos a) (negsuc b) = omega (arith, negated_pos (a / suc b), div-le_self a (suc b))
quotient_abs (negsuc a) (pos b) = omega (arith, negated_pos (suc a / b), div-le_self (suc a) b)
quotient_abs (negsuc a) (negsuc b) = omega (arith, div-le_self (suc a) (suc b))

year_small : (d : ℤ) → IsDateNumber d → unsigned_abs (field_of Year d) ≤ 9999
year_small d h = grind (arith, ints)

month_small : (d : ℤ) → IsDateNumber d → unsigned_abs (field_of Month d) ≤ 9999
month_small d h = grind (arith, ints)

day_small : (d : ℤ) → IsDateNumber d → unsigned_abs (field_of Day d) ≤ 9999
day_small d h = grind (arith, ints)

pub or_false : (a b : Bool) → (a || b) ≡ false → (a ≡ false) × (b ≡ false)
or_false true b h = absurd cc
or_false false b h = (refl, h)

not_false : (b : Bool) → not b ≡ false → b ≡ true
not_false true h = refl
not_false false h = absurd cc

-- a number no larger than this
pub record IsSmall (most_of_it : ℕ) (r : Result ℤ Code) : Type 0 where
  pub value : ℤ
  pub is : r ≡ Ok value
  pub small : unsigned_abs value ≤ most_of_it

brought_small : (v : ℤ) (from to m : ℕ) → unsigned_abs v ≤ m → is_past (raw_bring m from to) ≡ false → IsSmall (raw_bring m from to) (bring v from to)
brought_small v from to m h g =
    let product : unsigned_abs (v *ℤ pos (10 ^ (to - from))) ≤ m * 10 ^ (to - from) = rw (unsigned_abs-mul v (pos (10 ^ (to - from)))) (mul-le-mul_right (10 ^ (to - from)) h) in
    record { value = v *ℤ pos (10 ^ (to - from)); is = checked_small (v *ℤ pos (10 ^ (to - from))) (m * 10 ^ (to - from)) product (below (m * 10 ^ (to - from)) g); small = product }

-- a sum or a difference, of operands that are brought
both_small : (made : ℤ → ℤ → ℤ) → ((x y : ℤ) → unsigned_abs (made x y) ≤ unsigned_abs x + unsigned_abs y) → (ra rb : Result ℤ Code) (ma mb : ℕ)
    → ma ≤ greatest → mb ≤ greatest → is_past (capped ma + capped mb) ≡ false → IsSmall ma ra → IsSmall mb rb
    → IsSmall (capped (capped ma + capped mb)) (ra >>= (λ x. rb >>= (λ y. checked (made x y))))
both_small made abs ra rb ma mb ga gb g ha hb =
    let bound : capped ma + capped mb ≤ greatest = below (capped ma + capped mb) g in
    let within : unsigned_abs (made ha.value hb.value) ≤ capped ma + capped mb =
    omega (arith, abs ha.value hb.value, ha.small, hb.small, capped_is ma ga, capped_is mb gb) in
    record {
      value = made ha.value hb.value;
      is = rw (ha.is, hb.is) (checked_small (made ha.value hb.value) (capped ma + capped mb) within bound);
      small = omega (arith, within, capped_is (capped ma + capped mb) bound);
    }

summed_small : (made : ℤ → ℤ → ℤ) → ((x y : ℤ) → unsigned_abs (made x y) ≤ unsigned_abs x + unsigned_abs y) → (a : ℤ) (sa : ℕ) (b : ℤ) (sb ma mb : ℕ)
    → unsigned_abs a ≤ ma → unsigned_abs b ≤ mb → sum_raises ma sa mb sb ≡ false
    → IsSmall (capped (raw_sum ma sa mb sb)) (bring a sa (max sa sb) >>= (λ x. bring b sb (max sa sb) >>= (λ y. checked (made x y))))
summed_small made abs a sa b sb ma mb ha hb quiet =
    let first = or_false (is_past (raw_bring ma sa (max sa sb))) (is_past (raw_bring mb sb (max sa sb)) || is_past (raw_sum ma sa mb sb)) quiet in
    let second = or_false (is_past (raw_bring mb sb (max sa sb))) (is_past (raw_sum ma sa mb sb)) first.1 in
    both_small made abs (bring a sa (max sa sb)) (bring b sb (max sa sb)) (raw_bring ma sa (max sa sb)) (raw_bring mb sb (max sa sb))
    (below (raw_bring ma sa (max sa sb)) first.0) (below (raw_bring mb sb (max sa sb)) second.0) second.1
    (brought_small a sa (max sa sb) ma ha first.0) (brought_small b sb (max sa sb) mb hb second.0)

applied_small : (operator : Operator) (is_safe : Bool) (a : ℤ) (sa : ℕ) (b : ℤ) (sb ma mb : ℕ) → unsigned_abs a ≤ ma → unsigned_abs b ≤ mb
    → (is_safe ≡ true → (unsigned_abs b == 0) ≡ false) → operator_raises operator is_safe ma sa mb sb ≡ false
    → IsSmall (capped (raw_result operator ma sa mb sb)) (applied operator a sa b sb)
applied_small Add is_safe a sa b sb ma mb ha hb nonzero quiet = summed_small (λ x y. x +ℤ y) sum_abs a sa b sb ma mb ha hb quiet
applied_small Subtract is_safe a sa b sb ma mb ha hb nonzero quiet = summed_small (λ x y. x -ℤ y) difference_abs a sa b sb ma mb ha hb quiet
applied_small Multiply is_safe a sa b sb ma mb ha hb nonzero quiet =
    let bound : ma * mb ≤ greatest = below (ma * mb) quiet in
    let within : unsigned_abs (a *ℤ b) ≤ ma * mb = rw (unsigned_abs-mul a b) (mul-le-mul ha hb) in
    record { value = a *ℤ b; is = checked_small (a *ℤ b) (ma * mb) within bound; small = omega (arith, within, capped_is (ma * mb) bound) }
applied_small Divide is_safe a sa b sb ma mb ha hb nonzero quiet =
    let no = or_false (not is_safe) (is_past (raw_bring ma sa (sa + sb))) quiet in
    let x = brought_small a sa (sa + sb) ma ha no.1 in
    record {
      value = int_div x.value b;
      is = rw (nonzero (not_false is_safe no.0), x.is) refl;
      small = omega (arith, quotient_abs x.value b, x.small, capped_is (raw_bring ma sa (sa + sb)) (below (raw_bring ma sa (sa + sb)) no.1));
    }

-- ---- values

-- a value no larger than this
pub record Gives (m : ℕ) (r : Result Val Code) : Type 0 where
  pub value : Val
  pub is : r ≡ Ok value
  pub within : IsWithin m value

number_gives : (m : ℕ) (r : Result ℤ Code) → IsSmall m r → Gives m (as_number r)
number_gives m r h = record { value = Num h.value; is = rw h.is refl; within = h.small }

combined_gives : (operator : Operator) (is_safe : Bool) (x : Val) (sa : ℕ) (y : Val) (sb ma mb : ℕ) → IsWithin ma x → IsWithin mb y
    → ((b : ℤ) → y ≡ Num b → is_safe ≡ true → (unsigned_abs b == 0) ≡ false) → operator_raises operator is_safe ma sa mb sb ≡ false
    → Gives (capped (raw_result operator ma sa mb sb)) (combined operator x sa y sb)
combined_gives operator is_safe (Num a) sa (Num b) sb ma mb ha hb nonzero quiet =
    number_gives (capped (raw_result operator ma sa mb sb)) (applied operator a sa b sb) (applied_small operator is_safe a sa b sb ma mb ha hb (nonzero b refl) quiet)
combined_gives operator is_safe (Num a) sa Null sb ma mb ha hb nonzero quiet = record { value = Null; is = refl; within = tt }
combined_gives operator is_safe (Num a) sa (Date b) sb ma mb ha hb nonzero quiet = record { value = Null; is = refl; within = tt }
combined_gives operator is_safe (Num a) sa (Text b) sb ma mb ha hb nonzero quiet = record { value = Null; is = refl; within = tt }
combined_gives operator is_safe Null sa y sb ma mb ha hb nonzero quiet = record { value = Null; is = refl; within = tt }
combined_gives operator is_safe (Date a) sa y sb ma mb ha hb nonzero quiet = record { value = Null; is = refl; within = tt }
combined_gives operator is_safe (Text a) sa y sb ma mb ha hb nonzero quiet = record { value = Null; is = refl; within = tt }

raised_gives : (x : Val) (from to m : ℕ) → IsWithin m x → is_past (raw_bring m from to) ≡ false → Gives (capped (raw_bring m from to)) (raised x from to)
raised_gives Null from to m h g = record { value = Null; is = refl; within = tt }
raised_gives (Date d) from to m h g = record { value = Date d; is = refl; within = tt }
raised_gives (Text t) from to m h g = record { value = Text t; is = refl; within = tt }
raised_gives (Num a) from to m h g =
    let x = brought_small a from to m h g in
    record { value = Num x.value; is = rw x.is refl; within = omega (arith, x.small, capped_is (raw_bring m from to) (below (raw_bring m from to) g)) }

pub negated_within : (m : ℕ) (x : Val) → IsWithin m x → IsWithin m (negated x)
negated_within m Null h = tt
negated_within m (Num a) h = rw (negated_abs a) h
negated_within m (Date d) h = tt
negated_within m (Text t) h = tt

pub within_more : (m n : ℕ) (x : Val) → m ≤ n → IsWithin m x → IsWithin n x
within_more m n Null le h = tt
within_more m n (Num a) le h = omega arith
within_more m n (Date d) le h = tt
within_more m n (Text t) le h = tt

-- a literal divisor other than 0
safe_divisor : (b : Expression) (row : List Val) (y : Val) → value_of b (at_row row) ≡ Ok y → (v : ℤ) → y ≡ Num v → is_safe_divisor b ≡ true → (unsigned_abs v == 0) ≡ false
safe_divisor (number w s) row y e v q h =
    let same : w ≡ v = cc in
    subst (λ (z : ℤ). (unsigned_abs z == 0) ≡ false) same (grind (arith, nat_tests, h))
safe_divisor null row y e v q h = absurd cc
safe_divisor (date d) row y e v q h = absurd cc
safe_divisor (text t) row y e v q h = absurd cc
safe_divisor (column i ty) row y e v q h = absurd cc
safe_divisor (arithmetic operator a b) row y e v q h = absurd cc
safe_divisor (negative a) row y e v q h = absurd cc
safe_divisor (extract field a) row y e v q h = absurd cc
safe_divisor (brought a s) row y e v q h = absurd cc
safe_divisor (choice c a b) row y e v q h = absurd cc
safe_divisor (given w k most u) row y e v q h = absurd cc
safe_divisor (cell i ty most) row y e v q h = absurd cc

-- ---- expressions

pub extracted_within : (field : Field) (k : Option Kind) (x : Val) → IsTrue (is_date k) → IsValueOf k x → IsWithin 9999 (extracted field x)
extracted_within field k Null h v = tt
extracted_within field k (Num a) h v = tt
extracted_within field k (Text t) h v = tt
extracted_within Year (Some kind.Date) (Date d) h v = year_small d (day_number d v)
extracted_within Month (Some kind.Date) (Date d) h v = month_small d (day_number d v)
extracted_within Day (Some kind.Date) (Date d) h v = day_small d (day_number d v)
extracted_within field None (Date d) h v = absurd cc
extracted_within field (Some (kind.Number s)) (Date d) h v = absurd cc
extracted_within field (Some kind.Text) (Date d) h v = absurd cc

chosen_gives : (m n : ℕ) (t : Truth) (ra rb : Result Val Code) → Gives m ra → Gives n rb → Gives (max m n) (chosen t ra rb)
chosen_gives m n True ra rb ha hb = record { value = ha.value; is = ha.is; within = within_more m (max m n) ha.value (omega arith) ha.within }
chosen_gives m n False ra rb ha hb = record { value = hb.value; is = hb.is; within = within_more n (max m n) hb.value (omega arith) hb.within }
chosen_gives m n Unknown ra rb ha hb = record { value = hb.value; is = hb.is; within = within_more n (max m n) hb.value (omega arith) hb.within }

pub record TruthTold (r : Result Truth Code) : Type 0 where
  pub truth : Truth
  pub is : r ≡ Ok truth

and_told : (t u : Truth) → TruthTold (and_then t (Ok u))
and_told True u = record { truth = conjunction True u; is = refl }
and_told False u = record { truth = False; is = refl }
and_told Unknown u = record { truth = conjunction Unknown u; is = refl }

or_told : (t u : Truth) → TruthTold (or_else t (Ok u))
or_told True u = record { truth = True; is = refl }
or_told False u = record { truth = disjunction False u; is = refl }
or_told Unknown u = record { truth = disjunction Unknown u; is = refl }

bound_tested : (b : Bool) (most : ℕ) (v : ℤ) → nat_le (unsigned_abs v) most ≡ b → IsWithin most (if b then Num v else Null)
bound_tested true most v h = grind (arith, nat_tests, h)
bound_tested false most v h = tt

pub bounded_within : (most : ℕ) (v : Val) → IsWithin most (bounded most v)
bounded_within most Null = tt
bounded_within most (Num v) = bound_tested (nat_le (unsigned_abs v) most) most v refl
bounded_within most (Date d) = tt
bounded_within most (Text t) = tt

pub capped_within : (most : ℕ) (v : Val) → most ≤ 999999999999999999 → IsWithin most v → IsWithin (capped most) v
capped_within most Null le h = tt
capped_within most (Num v) le h = omega arith
capped_within most (Date d) le h = tt
capped_within most (Text t) le h = tt

pub record ValuesTold (r : Result (List Scaled) Code) : Type 0 where
  pub values : List Scaled
  pub is : r ≡ Ok values

pub holds_of : (row : List Val) (e : Expression) → HasColumns (IsInRange row) e → HasColumns (HoldsIn row) e
holds_of row e h = columns_more (IsInRange row) (HoldsIn row) (λ i ty p. p.0) e h

mutual
  -- a typed expression that can't raise has a value no larger than its magnitude
  pub quiet_value : (row : List Val) (e : Expression) → IsTyped e → HasColumns (IsInRange row) e → can_raise e ≡ false → Gives (magnitude e) (value_of e (at_row row))
  quiet_value row null t h q = record { value = Null; is = refl; within = tt }
  quiet_value row (number v s) t h q = record { value = Num v; is = refl; within = number_within v t.0 }
  quiet_value row (date d) t h q = record { value = Date d; is = refl; within = tt }
  quiet_value row (text x) t h q = record { value = Text x; is = refl; within = tt }
  quiet_value row (column i ty) t h q = record { value = cell_of (slice_get row i); is = refl; within = h.1 }
  quiet_value row (arithmetic operator a b) t h q =
      let raises : Bool = operator_raises operator (is_safe_divisor b) (magnitude a) (scale_of a) (magnitude b) (scale_of b) in
      let first = or_false (can_raise a) (can_raise b || raises) q in
      let second = or_false (can_raise b) raises first.1 in
      let x = quiet_value row a t.0.0 h.0 first.0 in
      let y = quiet_value row b t.0.1 h.1 second.0 in
      let g = combined_gives operator (is_safe_divisor b) x.value (scale_of a) y.value (scale_of b) (magnitude a) (magnitude b) x.within y.within
      (safe_divisor b row y.value y.is) second.1 in
      record { value = g.value; is = rw (x.is, y.is) g.is; within = g.within }
  quiet_value row (negative a) t h q =
      let x = quiet_value row a t.0 h q in
      record { value = negated x.value; is = rw x.is refl; within = negated_within (magnitude a) x.value x.within }
  quiet_value row (extract field a) t h q =
      let x = quiet_value row a t.0 h q in
      let of_kind : IsValueOf (kind_of a) x.value = subst (λ r. IfOk r (λ v. IsValueOf (kind_of a) v)) x.is (typed_value a row t.0 (holds_of row a h)) in
      record { value = extracted field x.value; is = rw x.is refl; within = extracted_within field (kind_of a) x.value t.1 of_kind }
  quiet_value row (brought a s) t h q =
      let no = or_false (can_raise a) (is_past (raw_bring (magnitude a) (scale_of a) s)) q in
      let x = quiet_value row a t.0 h no.0 in
      let g = raised_gives x.value (scale_of a) s (magnitude a) x.within no.1 in
      record { value = g.value; is = rw x.is g.is; within = g.within }
  quiet_value row (choice c a b) t h q =
      let no = or_false (condition_can_raise c) (can_raise a || can_raise b) q in
      let results = or_false (can_raise a) (can_raise b) no.1 in
      let u = quiet_truth row c t.0 h.0 no.0 in
      let g = chosen_gives (magnitude a) (magnitude b) u.truth (value_of a (at_row row)) (value_of b (at_row row))
      (quiet_value row a t.1.0.0 h.1.0 results.0) (quiet_value row b t.1.0.1 h.1.1 results.1) in
      record { value = g.value; is = rw u.is g.is; within = g.within }
  quiet_value row (given w k most v) t h q = record { value = v; is = refl; within = capped_within most v t.0.1 t.1.0.1 }
  quiet_value row (cell i ty most) t h q =
      let v : Val = bounded most (cell_of (slice_get row i)) in
      record { value = v; is = refl; within = capped_within most v t.1 (bounded_within most (cell_of (slice_get row i))) }

  -- and a condition a truth
  pub quiet_truth : (row : List Val) (c : Condition) → AreTyped c → HaveColumns (IsInRange row) c → condition_can_raise c ≡ false → TruthTold (truth_of c (at_row row))
  quiet_truth row (comparison op a b) t h q =
      let no = or_false (can_raise a) (can_raise b) q in
      let x = quiet_value row a t.0.0 h.0 no.0 in
      let y = quiet_value row b t.0.1 h.1 no.1 in
      record { truth = compared op x.value (scale_of a) y.value (scale_of b); is = rw (x.is, y.is) refl }
  quiet_truth row (predicate p a) t h q = let x = quiet_value row a t h q in record { truth = tested p x.value; is = rw x.is refl }
  quiet_truth row (both c d) t h q =
      let no = or_false (condition_can_raise c) (condition_can_raise d) q in
      let u = quiet_truth row c t.0 h.0 no.0 in
      let w = quiet_truth row d t.1 h.1 no.1 in
      let g = and_told u.truth w.truth in
      record { truth = g.truth; is = rw (u.is, w.is) g.is }
  quiet_truth row (either c d) t h q =
      let no = or_false (condition_can_raise c) (condition_can_raise d) q in
      let u = quiet_truth row c t.0 h.0 no.0 in
      let w = quiet_truth row d t.1 h.1 no.1 in
      let g = or_told u.truth w.truth in
      record { truth = g.truth; is = rw (u.is, w.is) g.is }
  quiet_truth row (negation_of c) t h q = let u = quiet_truth row c t h q in record { truth = negation u.truth; is = rw u.is refl }
  quiet_truth row (is c u) t h q = let w = quiet_truth row c t h q in record { truth = truth_if (same_truth w.truth u); is = rw w.is refl }
  quiet_truth row (found n asked keys kinds rows) t h q =
      let no = or_false (operands_can_raise asked) (operands_can_raise keys) q in
      let xs = quiet_values row asked t.0.0 h.0 no.0 in
      let ys = quiet_values row keys t.0.1 h.1 no.1 in
      record { truth = answered xs.values ys.values kinds rows; is = rw (xs.is, ys.is) refl }

  pub quiet_values : (row : List Val) (es : Operands) → OperandsAreTyped es → OperandsHave (IsInRange row) es → operands_can_raise es ≡ false → ValuesTold (values_of es (at_row row))
  quiet_values row nil t h q = record { values = []; is = refl }
  quiet_values row (operand e es) t h q =
      let no = or_false (can_raise e) (operands_can_raise es) q in
      let x = quiet_value row e t.0 h.0 no.0 in
      let xs = quiet_values row es t.1 h.1 no.1 in
      record { values = record { value = x.value; scale = scale_of e } ∷ xs.values; is = rw (x.is, xs.is) refl }
