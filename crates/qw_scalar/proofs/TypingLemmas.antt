-- A typed expression's value is of its kind.
use Rattle.std.proofs.Common.{Bool, true, false, if◌then◌else◌, nat_le, unsigned_abs, slice_get, ℕ, ℤ, neg_ℤ, IfOk, IsTrue, Option, Some, None, Result, Ok, Err, List, max, arith, refl, sym, subst}
use Rattle.std.proofs.lemmas.Bool.Decides.{nat_tests}
use Rattle.std.proofs.lemmas.Grind.{common_steps}
use Rattle.qw_types.specs.Arithmetic.{◌>>=◌, bring, fits}
use Rattle.qw_types.proofs.ArithmeticLaws.{sum_fit, difference_fit, product_fit, quotient_fit, bring_fit}
use Rattle.qw_types.proofs.KindLemmas.{day_number}
use Rattle.qw_types.specs.declared.code.Code.{Code}
use Rattle.qw_types.specs.declared.truth.Truth.{Truth}
use Rattle.qw_types.specs.declared.truth.Truth.TheVariants as truth
use Rattle.qw_types.specs.declared.value.Val.{Val}
use Rattle.qw_types.specs.declared.value.Val.TheVariants as val
use Rattle.qw_scalar.specs.declared.expression.Operator.{Operator}
use Rattle.qw_scalar.specs.declared.expression.Operator.TheVariants as op
use Rattle.qw_scalar.specs.declared.expression.Field.{Field}
use Rattle.qw_scalar.specs.declared.expression.Field.TheVariants as fields
use Rattle.qw_types.specs.Kind.{IsDateNumber, IsOfKind, type_kind}
use Rattle.qw_types.specs.declared.kind.Kind.{Kind}
use Rattle.qw_types.specs.declared.kind.Kind.TheVariants as kind
use Rattle.qw_scalar.specs.Columns.{HasColumns, HoldsIn}
use Rattle.qw_scalar.specs.Evaluation.{applied, as_number, bounded, cell_of, chosen, combined, extracted, field_of, negated, raised, truth_of, value_of, at_row}
use Rattle.qw_scalar.specs.Expression.{Expression, null, number, date, text, column, arithmetic, negative, extract, brought, choice, given, cell, scale_after, scale_of}
use Rattle.qw_scalar.specs.Typing.{IsTyped, IsValueOf, agree, at_scale, is_date, is_number, joined, kind_of}

-- a value of a kind, or an exception
abbrev Gives : Option Kind → Result Val Code → Type 0
Gives k r = IfOk r (λ v. IsValueOf k v)

then_gives : {A : Type 0} (r : Result A Code) (f : A → Result Val Code) (P : A → Type 0) (k : Option Kind) → IfOk r P → ((x : A) → P x → Gives k (f x)) → Gives k (r >>= f)
then_gives (Ok x) f P k h each = each x h
then_gives (Err code) f P k h each = tt

always : {A : Type 0} (r : Result A Code) → IfOk r (λ x. Unit {0})
always (Ok x) = tt
always (Err code) = tt

null_is_of : (k : Option Kind) → IsValueOf k val.Null
null_is_of None = refl
null_is_of (Some k) = tt

number_given : (s : ℕ) (r : Result ℤ Code) → IfOk r (λ v. IsTrue (fits v)) → Gives (Some (kind.Number s)) (as_number r)
number_given s (Ok v) h = h
number_given s (Err code) h = tt

applied_fit : (operator : Operator) (a : ℤ) (sa : ℕ) (b : ℤ) (sb : ℕ) → IfOk (applied operator a sa b sb) (λ v. IsTrue (fits v))
applied_fit op.Add a sa b sb = sum_fit a sa b sb
applied_fit op.Subtract a sa b sb = difference_fit a sa b sb
applied_fit op.Multiply a sa b sb = product_fit a b
applied_fit op.Divide a sa b sb = quotient_fit a sa b sb

combined_given : (s : ℕ) (operator : Operator) (x : Val) (sa : ℕ) (y : Val) (sb : ℕ) → Gives (Some (kind.Number s)) (combined operator x sa y sb)
combined_given s operator val.Null sa y sb = tt
combined_given s operator (val.Num a) sa val.Null sb = tt
combined_given s operator (val.Num a) sa (val.Num b) sb = number_given s (applied operator a sa b sb) (applied_fit operator a sa b sb)
combined_given s operator (val.Num a) sa (val.Date b) sb = tt
combined_given s operator (val.Num a) sa (val.Text b) sb = tt
combined_given s operator (val.Date a) sa y sb = tt
combined_given s operator (val.Text a) sa y sb = tt

negation_fits : (a : ℤ) → IsTrue (fits a) → IsTrue (fits (neg_ℤ a))
negation_fits a h = grind (arith, common_steps, nat_tests)

negated_given : (s : ℕ) (k : Option Kind) (x : Val) → IsTrue (is_number k) → IsValueOf k x → IsOfKind (kind.Number s) (negated x)
negated_given s k val.Null n h = tt
negated_given s None (val.Num a) n h = absurd cc
negated_given s (Some (kind.Number t)) (val.Num a) n h = negation_fits a h
negated_given s (Some kind.Date) (val.Num a) n h = absurd h
negated_given s (Some kind.Text) (val.Num a) n h = absurd h
negated_given s k (val.Date d) n h = tt
negated_given s k (val.Text t) n h = tt

field_fits : (field : Field) (d : ℤ) → IsDateNumber d → IsTrue (fits (field_of field d))
field_fits fields.Year d h = grind (arith, common_steps, nat_tests)
field_fits fields.Month d h = grind (arith, common_steps, nat_tests)
field_fits fields.Day d h = grind (arith, common_steps, nat_tests)

extracted_given : (field : Field) (k : Option Kind) (x : Val) → IsTrue (is_date k) → IsValueOf k x → IsOfKind (kind.Number 0) (extracted field x)
extracted_given field k val.Null n h = tt
extracted_given field k (val.Num a) n h = tt
extracted_given field None (val.Date d) n h = absurd cc
extracted_given field (Some (kind.Number t)) (val.Date d) n h = absurd h
extracted_given field (Some kind.Date) (val.Date d) n h = field_fits field d (day_number d h)
extracted_given field (Some kind.Text) (val.Date d) n h = absurd h
extracted_given field k (val.Text t) n h = tt

raised_given : (k : Option Kind) (x : Val) (from to : ℕ) → IsValueOf k x → Gives (at_scale k to) (raised x from to)
raised_given k val.Null from to h = null_is_of (at_scale k to)
raised_given None (val.Num a) from to h = absurd cc
raised_given None (val.Date d) from to h = absurd cc
raised_given None (val.Text t) from to h = absurd cc
raised_given (Some (kind.Number s)) (val.Num a) from to h = number_given to (bring a from to) (bring_fit a from to)
raised_given (Some (kind.Number s)) (val.Date d) from to h = absurd h
raised_given (Some (kind.Number s)) (val.Text t) from to h = absurd h
raised_given (Some kind.Date) (val.Num a) from to h = absurd h
raised_given (Some kind.Date) (val.Date d) from to h = h
raised_given (Some kind.Date) (val.Text t) from to h = absurd h
raised_given (Some kind.Text) (val.Num a) from to h = absurd h
raised_given (Some kind.Text) (val.Date d) from to h = absurd h
raised_given (Some kind.Text) (val.Text t) from to h = tt

-- numbers of every scale are the same values
at_any_scale : (s t : ℕ) (v : Val) → IsOfKind (kind.Number s) v → IsOfKind (kind.Number t) v
at_any_scale s t val.Null h = tt
at_any_scale s t (val.Num a) h = h
at_any_scale s t (val.Date d) h = absurd h
at_any_scale s t (val.Text x) h = absurd h

first_joined : (k other : Option Kind) (v : Val) → IsTrue (agree k other) → IsValueOf k v → IsValueOf (joined k other) v
first_joined None other v a h = subst (IsValueOf other) (sym h) (null_is_of other)
first_joined (Some (kind.Number s)) None v a h = h
first_joined (Some (kind.Number s)) (Some (kind.Number t)) v a h = at_any_scale s (max s t) v h
first_joined (Some (kind.Number s)) (Some kind.Date) v a h = h
first_joined (Some (kind.Number s)) (Some kind.Text) v a h = h
first_joined (Some kind.Date) other v a h = h
first_joined (Some kind.Text) other v a h = h

second_joined : (k other : Option Kind) (v : Val) → IsTrue (agree k other) → IsValueOf other v → IsValueOf (joined k other) v
second_joined None other v a h = h
second_joined (Some k) None v a h = subst (IsValueOf (joined (Some k) None)) (sym h) (null_is_of (joined (Some k) None))
second_joined (Some (kind.Number s)) (Some (kind.Number t)) v a h = at_any_scale t (max s t) v h
second_joined (Some (kind.Number s)) (Some kind.Date) v a h = absurd cc
second_joined (Some (kind.Number s)) (Some kind.Text) v a h = absurd cc
second_joined (Some kind.Date) (Some (kind.Number t)) v a h = absurd cc
second_joined (Some kind.Date) (Some kind.Date) v a h = h
second_joined (Some kind.Date) (Some kind.Text) v a h = absurd cc
second_joined (Some kind.Text) (Some (kind.Number t)) v a h = absurd cc
second_joined (Some kind.Text) (Some kind.Date) v a h = absurd cc
second_joined (Some kind.Text) (Some kind.Text) v a h = h

given_joined : (k other : Option Kind) (r : Result Val Code) → ((v : Val) → IsValueOf k v → IsValueOf other v) → Gives k r → Gives other r
given_joined k other (Ok v) more h = more v h
given_joined k other (Err code) more h = tt

chosen_given : (k other : Option Kind) (t : Truth) (r q : Result Val Code) → IsTrue (agree k other) → Gives k r → Gives other q → Gives (joined k other) (chosen t r q)
chosen_given k other truth.True r q a hr hq = given_joined k (joined k other) r (λ v. first_joined k other v a) hr
chosen_given k other truth.False r q a hr hq = given_joined other (joined k other) q (λ v. second_joined k other v a) hq
chosen_given k other truth.Unknown r q a hr hq = given_joined other (joined k other) q (λ v. second_joined k other v a) hq

chosen_value : (k : Kind) (b : Bool) (v : Val) → IsOfKind k v → IsOfKind k (if b then v else val.Null)
chosen_value k true v h = h
chosen_value k false v h = tt

bounded_given : (k : Kind) (most : ℕ) (v : Val) → IsOfKind k v → IsOfKind k (bounded most v)
bounded_given k most val.Null h = h
bounded_given k most (val.Num v) h = chosen_value k (nat_le (unsigned_abs v) most) (val.Num v) h
bounded_given k most (val.Date d) h = h
bounded_given k most (val.Text t) h = h

pub typed_value : (e : Expression) (row : List Val) → IsTyped e → HasColumns (HoldsIn row) e → IfOk (value_of e (at_row row)) (λ v. IsValueOf (kind_of e) v)
typed_value null row h c = refl
typed_value (number v s) row h c = h.0
typed_value (date d) row h c = h
typed_value (text t) row h c = tt
typed_value (column i ty) row h c = c
typed_value (arithmetic operator a b) row h c =
    let s = kind_of (arithmetic operator a b) in
    then_gives (value_of a (at_row row)) _ (λ x. Unit {0}) s (always (value_of a (at_row row)))
    (λ x _. then_gives (value_of b (at_row row)) _ (λ y. Unit {0}) s (always (value_of b (at_row row)))
    (λ y _. combined_given (scale_after operator (scale_of a) (scale_of b)) operator x (scale_of a) y (scale_of b)))
typed_value (negative a) row h c =
    then_gives (value_of a (at_row row)) _ (IsValueOf (kind_of a)) (kind_of (negative a)) (typed_value a row h.0 c) (λ x hx. negated_given (scale_of a) (kind_of a) x h.1 hx)
typed_value (extract field a) row h c =
    then_gives (value_of a (at_row row)) _ (IsValueOf (kind_of a)) (kind_of (extract field a)) (typed_value a row h.0 c) (λ x hx. extracted_given field (kind_of a) x h.1 hx)
typed_value (brought a s) row h c =
    then_gives (value_of a (at_row row)) _ (IsValueOf (kind_of a)) (kind_of (brought a s)) (typed_value a row h.0 c) (λ x hx. raised_given (kind_of a) x (scale_of a) s hx)
typed_value (choice d a b) row h c =
    then_gives (truth_of d (at_row row)) _ (λ t. Unit {0}) (kind_of (choice d a b)) (always (truth_of d (at_row row)))
    (λ t _. chosen_given (kind_of a) (kind_of b) t (value_of a (at_row row)) (value_of b (at_row row)) h.1.1
    (typed_value a row h.1.0.0 c.1.0) (typed_value b row h.1.0.1 c.1.1))
typed_value (given w k most v) row h c = h.1.0.0
typed_value (cell i ty most) row h c = bounded_given (type_kind ty) most (cell_of (slice_get row i)) c
