-- Each value of an expression is within its magnitude, also where the expression can raise.
use Rattle.std.proofs.Common.{ℕ, ◌+◌, ◌-◌, ◌*◌, ◌^◌, ◌≤◌, ◌==◌, max, Bool, true, false, ℤ, pos, ◌+ℤ◌, ◌-ℤ◌, ◌*ℤ◌, unsigned_abs, int_div, IfOk, if◌then◌else◌, slice_get, List, Result, Ok, Err, arith}
use Rattle.std.proofs.lemmas.Bool.Decides.{nat_tests}
use Rattle.std.proofs.lemmas.Int.{unsigned_abs-mul}
use Rattle.std.proofs.Math.Nat.{mul-le-mul, mul-le-mul_right}
use Rattle.qw_types.specs.Arithmetic.{◌>>=◌, bring, checked}
use Rattle.qw_types.specs.declared.code.Code.{Code}
use Rattle.qw_types.specs.declared.code.Code.TheVariants.{DivZero}
use Rattle.qw_types.specs.declared.truth.Truth.{Truth}
use Rattle.qw_types.specs.declared.truth.Truth.TheVariants.{True, False, Unknown}
use Rattle.qw_types.specs.declared.value.Val.{Val}
use Rattle.qw_types.specs.declared.value.Val.TheVariants.{Null, Num, Date, Text}
use Rattle.qw_scalar.specs.declared.expression.Operator.{Operator}
use Rattle.qw_scalar.specs.declared.expression.Operator.TheVariants.{Add, Subtract, Multiply, Divide}
use Rattle.qw_scalar.specs.Columns.{HasColumns}
use Rattle.qw_scalar.specs.Typing.{IsTyped, IsValueOf, IsWithin, kind_of}
use Rattle.qw_scalar.proofs.TypingLemmas.{typed_value}
use Rattle.qw_scalar.specs.Evaluation.{applied, as_number, at_row, bounded, cell_of, chosen, combined, extracted, negated, raised, truth_of, value_of}
use Rattle.qw_scalar.specs.Expression.{Expression, null, number, date, text, column, arithmetic, negative, extract, brought, choice, given, cell, scale_of}
use Rattle.qw_raise.specs.Raise.{capped, magnitude, raw_bring, raw_result, raw_sum}
use Rattle.qw_raise.specs.Range.{IsInRange}
use Rattle.qw_raise.proofs.RaiseLemmas.{bounded_within, capped_within, difference_abs, extracted_within, holds_of, negated_within, number_within, quotient_abs, sum_abs, within_more}

-- a number of so many at most, or an exception
abbrev IsAtMost : ℕ → Result ℤ Code → Type 0
IsAtMost m r = IfOk r (λ v. unsigned_abs v ≤ m)

then_holds : {A B : Type 0} (r : Result A Code) (f : A → Result B Code) (P : A → Type 0) (Q : B → Type 0) → IfOk r P → ((x : A) → P x → IfOk (f x) Q) → IfOk (r >>= f) Q
then_holds (Ok x) f P Q h each = each x h
then_holds (Err code) f P Q h each = tt

always : {A : Type 0} (r : Result A Code) → IfOk r (λ x. Unit {0})
always (Ok x) = tt
always (Err code) = tt

checked_within : (v : ℤ) (raw : ℕ) → unsigned_abs v ≤ raw → IsAtMost (capped raw) (checked v)
checked_within v raw h = grind (arith, nat_tests)

brought_within : (v : ℤ) (from to m : ℕ) → unsigned_abs v ≤ m → IsAtMost (capped (raw_bring m from to)) (bring v from to)
brought_within v from to m h =
    let product : unsigned_abs (v *ℤ pos (10 ^ (to - from))) ≤ m * 10 ^ (to - from) = rw (unsigned_abs-mul v (pos (10 ^ (to - from)))) (mul-le-mul_right (10 ^ (to - from)) h) in
    checked_within (v *ℤ pos (10 ^ (to - from))) (m * 10 ^ (to - from)) product

summed_within : (made : ℤ → ℤ → ℤ) → ((x y : ℤ) → unsigned_abs (made x y) ≤ unsigned_abs x + unsigned_abs y) → (a : ℤ) (sa : ℕ) (b : ℤ) (sb ma mb : ℕ)
    → unsigned_abs a ≤ ma → unsigned_abs b ≤ mb
    → IsAtMost (capped (raw_sum ma sa mb sb)) (bring a sa (max sa sb) >>= (λ x. bring b sb (max sa sb) >>= (λ y. checked (made x y))))
summed_within made abs a sa b sb ma mb ha hb =
    let s : ℕ = max sa sb in
    let Q : ℤ → Type 0 = λ v. unsigned_abs v ≤ capped (raw_sum ma sa mb sb) in
    then_holds (bring a sa s) (λ x. bring b sb s >>= (λ y. checked (made x y))) (λ x. unsigned_abs x ≤ capped (raw_bring ma sa s)) Q (brought_within a sa s ma ha)
    (λ x hx. then_holds (bring b sb s) (λ y. checked (made x y)) (λ y. unsigned_abs y ≤ capped (raw_bring mb sb s)) Q (brought_within b sb s mb hb)
    (λ y hy. checked_within (made x y) (raw_sum ma sa mb sb) (omega (arith, abs x y, hx, hy))))

quotient_if : (zero : Bool) (r : Result ℤ Code) (b : ℤ) (m : ℕ) → IsAtMost m r → IsAtMost m (if zero then Err DivZero else (r >>= (λ x. Ok (int_div x b))))
quotient_if true r b m h = tt
quotient_if false r b m h = then_holds r (λ x. Ok (int_div x b)) (λ x. unsigned_abs x ≤ m) (λ x. unsigned_abs x ≤ m) h (λ x hx. omega (arith, quotient_abs x b, hx))

applied_within : (operator : Operator) (a : ℤ) (sa : ℕ) (b : ℤ) (sb ma mb : ℕ) → unsigned_abs a ≤ ma → unsigned_abs b ≤ mb
    → IsAtMost (capped (raw_result operator ma sa mb sb)) (applied operator a sa b sb)
applied_within Add a sa b sb ma mb ha hb = summed_within (λ x y. x +ℤ y) sum_abs a sa b sb ma mb ha hb
applied_within Subtract a sa b sb ma mb ha hb = summed_within (λ x y. x -ℤ y) difference_abs a sa b sb ma mb ha hb
applied_within Multiply a sa b sb ma mb ha hb =
    let within : unsigned_abs (a *ℤ b) ≤ ma * mb = rw (unsigned_abs-mul a b) (mul-le-mul ha hb) in
    checked_within (a *ℤ b) (ma * mb) within
applied_within Divide a sa b sb ma mb ha hb = quotient_if (unsigned_abs b == 0) (bring a sa (sa + sb)) b (capped (raw_bring ma sa (sa + sb))) (brought_within a sa (sa + sb) ma ha)

number_at_most : (m : ℕ) (r : Result ℤ Code) → IsAtMost m r → IfOk (as_number r) (IsWithin m)
number_at_most m (Ok v) h = h
number_at_most m (Err code) h = tt

combined_within : (operator : Operator) (x : Val) (sa : ℕ) (y : Val) (sb ma mb : ℕ) → IsWithin ma x → IsWithin mb y
    → IfOk (combined operator x sa y sb) (IsWithin (capped (raw_result operator ma sa mb sb)))
combined_within operator (Num a) sa (Num b) sb ma mb ha hb =
    number_at_most (capped (raw_result operator ma sa mb sb)) (applied operator a sa b sb) (applied_within operator a sa b sb ma mb ha hb)
combined_within operator (Num a) sa Null sb ma mb ha hb = tt
combined_within operator (Num a) sa (Date b) sb ma mb ha hb = tt
combined_within operator (Num a) sa (Text b) sb ma mb ha hb = tt
combined_within operator Null sa y sb ma mb ha hb = tt
combined_within operator (Date a) sa y sb ma mb ha hb = tt
combined_within operator (Text a) sa y sb ma mb ha hb = tt

raised_within : (x : Val) (from to m : ℕ) → IsWithin m x → IfOk (raised x from to) (IsWithin (capped (raw_bring m from to)))
raised_within Null from to m h = tt
raised_within (Date d) from to m h = tt
raised_within (Text t) from to m h = tt
raised_within (Num a) from to m h = number_at_most (capped (raw_bring m from to)) (bring a from to) (brought_within a from to m h)

more_within : (m n : ℕ) (r : Result Val Code) → m ≤ n → IfOk r (IsWithin m) → IfOk r (IsWithin n)
more_within m n (Ok x) le h = within_more m n x le h
more_within m n (Err code) le h = tt

chosen_within : (m n : ℕ) (t : Truth) (ra rb : Result Val Code) → IfOk ra (IsWithin m) → IfOk rb (IsWithin n) → IfOk (chosen t ra rb) (IsWithin (max m n))
chosen_within m n True ra rb ha hb = more_within m (max m n) ra (omega arith) ha
chosen_within m n False ra rb ha hb = more_within n (max m n) rb (omega arith) hb
chosen_within m n Unknown ra rb ha hb = more_within n (max m n) rb (omega arith) hb

pub within_magnitude : (row : List Val) (e : Expression) → IsTyped e → HasColumns (IsInRange row) e → IfOk (value_of e (at_row row)) (IsWithin (magnitude e))
within_magnitude row null t h = tt
within_magnitude row (number v s) t h = number_within v t.0
within_magnitude row (date d) t h = tt
within_magnitude row (text x) t h = tt
within_magnitude row (column i ty) t h = h.1
within_magnitude row (arithmetic operator a b) t h =
    let Q : Val → Type 0 = IsWithin (capped (raw_result operator (magnitude a) (scale_of a) (magnitude b) (scale_of b))) in
    then_holds (value_of a (at_row row)) (λ x. value_of b (at_row row) >>= (λ y. combined operator x (scale_of a) y (scale_of b))) (IsWithin (magnitude a)) Q (within_magnitude row a t.0.0 h.0)
    (λ x hx. then_holds (value_of b (at_row row)) (λ y. combined operator x (scale_of a) y (scale_of b)) (IsWithin (magnitude b)) Q (within_magnitude row b t.0.1 h.1)
    (λ y hy. combined_within operator x (scale_of a) y (scale_of b) (magnitude a) (magnitude b) hx hy))
within_magnitude row (negative a) t h =
    then_holds (value_of a (at_row row)) (λ x. Ok (negated x)) (IsWithin (magnitude a)) (IsWithin (magnitude a)) (within_magnitude row a t.0 h) (λ x hx. negated_within (magnitude a) x hx)
within_magnitude row (extract field a) t h =
    then_holds (value_of a (at_row row)) (λ x. Ok (extracted field x)) (IsValueOf (kind_of a)) (IsWithin 9999) (typed_value a row t.0 (holds_of row a h)) (λ x hx. extracted_within field (kind_of a) x t.1 hx)
within_magnitude row (brought a s) t h =
    then_holds (value_of a (at_row row)) (λ x. raised x (scale_of a) s) (IsWithin (magnitude a)) (IsWithin (capped (raw_bring (magnitude a) (scale_of a) s))) (within_magnitude row a t.0 h)
    (λ x hx. raised_within x (scale_of a) s (magnitude a) hx)
within_magnitude row (choice c a b) t h =
    then_holds (truth_of c (at_row row)) (λ u. chosen u (value_of a (at_row row)) (value_of b (at_row row))) (λ u. Unit {0}) (IsWithin (max (magnitude a) (magnitude b))) (always (truth_of c (at_row row)))
    (λ u hu. chosen_within (magnitude a) (magnitude b) u (value_of a (at_row row)) (value_of b (at_row row)) (within_magnitude row a t.1.0.0 h.1.0) (within_magnitude row b t.1.0.1 h.1.1))
within_magnitude row (given w k most v) t h = capped_within most v t.0.1 t.1.0.1
within_magnitude row (cell i ty most) t h = capped_within most (bounded most (cell_of (slice_get row i))) t.1 (bounded_within most (cell_of (slice_get row i)))
