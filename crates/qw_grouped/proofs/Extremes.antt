-- The least of values is no greater than any of them, and the greatest no less; sums and averages are in range or raise.
use Rattle.std.proofs.Common.{◌≡◌, ◌∙◌, ◌≤◌, ◌^◌, ◌*ℤ◌, ℤ, pos, int_div, true, false, List, [], ◌∷◌, length, Ok, Err, refl, ap, arith}
use Rattle.std.proofs.lemmas.Cmp.{tied_itself, upto}
use Rattle.std.specs.List.{AllByRecursion}
use Rattle.std.specs.Ordering.{is_gt, is_le, ordering_reverse}
use Rattle.std.specs.declared.cmp.Ordering.{Ordering}
use Rattle.std.specs.declared.cmp.Ordering.TheVariants.{Less, Equal, Greater}
use Rattle.qw_types.specs.Arithmetic.{checked, fits}
use Rattle.qw_types.specs.ValueOrder.{value_order}
use Rattle.qw_types.specs.declared.code.Code.TheVariants.{OutOfRange}
use Rattle.qw_types.specs.declared.value.Val.{Val}
use Rattle.qw_types.specs.declared.value.Val.TheVariants.{Num}
use Rattle.qw_scalar.specs.Evaluation.{as_number}
use Rattle.qw_grouped.specs.SetFunctions.{average_value, greater, greatest, greatest_value, least, least_value, lesser, sum_value, total}
use Rattle.qw_meaning.proofs.ListLemmas.{all_more}
use Rattle.qw_grouped.proofs.ValueTotal.{value_total}

-- ---- no greater, and no less

abbrev NotPast : Val → Val → Type 0
NotPast a b = is_gt (value_order a b) ≡ false

through : (a b c : Val) → NotPast a b → NotPast b c → NotPast a c
through a b c h g = upto value_total a b c h g

itself : (a : Val) → NotPast a a
itself a = ap is_gt (tied_itself value_total a)

lesser_first : (a b : Val) (r : Ordering) → value_order a b ≡ r → NotPast (lesser a b) a
lesser_first a b Less e = rw e (itself a)
lesser_first a b Equal e = rw e (itself a)
lesser_first a b Greater e = rw e (ap is_gt (value_total.antisymm b a ∙ ap ordering_reverse e))

lesser_second : (a b : Val) (r : Ordering) → value_order a b ≡ r → NotPast (lesser a b) b
lesser_second a b Less e = rw e (ap is_gt e)
lesser_second a b Equal e = rw e (ap is_gt e)
lesser_second a b Greater e = rw e (itself b)

greater_first : (a b : Val) (r : Ordering) → value_order a b ≡ r → NotPast a (greater a b)
greater_first a b Less e = rw e (ap is_gt e)
greater_first a b Equal e = rw e (itself a)
greater_first a b Greater e = rw e (itself a)

greater_second : (a b : Val) (r : Ordering) → value_order a b ≡ r → NotPast b (greater a b)
greater_second a b Less e = rw e (itself b)
greater_second a b Equal e = rw e (ap is_gt (value_total.antisymm b a ∙ ap ordering_reverse e))
greater_second a b Greater e = rw e (ap is_gt (value_total.antisymm b a ∙ ap ordering_reverse e))

least_first : (v : Val) (values : List Val) → NotPast (least v values) v
least_first v [] = itself v
least_first v (w ∷ values) = through (least (lesser v w) values) (lesser v w) v (least_first (lesser v w) values) (lesser_first v w (value_order v w) refl)

least_all : (v : Val) (values : List Val) → AllByRecursion (NotPast (least v values)) values
least_all v [] = tt
least_all v (w ∷ values) =
    (through (least (lesser v w) values) (lesser v w) w (least_first (lesser v w) values) (lesser_second v w (value_order v w) refl), least_all (lesser v w) values)

greatest_first : (v : Val) (values : List Val) → NotPast v (greatest v values)
greatest_first v [] = itself v
greatest_first v (w ∷ values) = through v (greater v w) (greatest (greater v w) values) (greater_first v w (value_order v w) refl) (greatest_first (greater v w) values)

greatest_all : (v : Val) (values : List Val) → AllByRecursion (λ w. NotPast w (greatest v values)) values
greatest_all v [] = tt
greatest_all v (w ∷ values) =
    (through w (greater v w) (greatest (greater v w) values) (greater_second v w (value_order v w) refl) (greatest_first (greater v w) values), greatest_all (greater v w) values)

le_of : (r : Ordering) → is_gt r ≡ false → is_le r ≡ true
le_of Less h = refl
le_of Equal h = refl
le_of Greater h = absurd cc

pub least_is_least : (values : List Val) → AllByRecursion (λ value. is_le (value_order (least_value values) value) ≡ true) values
least_is_least [] = tt
least_is_least (v ∷ values) = (
  le_of (value_order (least v values) v) (least_first v values),
  all_more (NotPast (least v values)) (λ value. is_le (value_order (least v values) value) ≡ true) values (λ w h. le_of (value_order (least v values) w) h) (least_all v values),
)

pub greatest_is_greatest : (values : List Val) → AllByRecursion (λ value. is_le (value_order value (greatest_value values)) ≡ true) values
greatest_is_greatest [] = tt
greatest_is_greatest (v ∷ values) = (
  le_of (value_order v (greatest v values)) (greatest_first v values),
  all_more (λ w. NotPast w (greatest v values)) (λ value. is_le (value_order value (greatest v values)) ≡ true) values (λ w h. le_of (value_order w (greatest v values)) h) (greatest_all v values),
)

-- ---- in range, or not

in_range : (t : ℤ) → fits t ≡ true → as_number (checked t) ≡ Ok (Num t)
in_range t h = rw h refl

past_range : (t : ℤ) → fits t ≡ false → as_number (checked t) ≡ Err OutOfRange
past_range t h = rw h refl

pub sum_given : (values : List Val) → 1 ≤ length values → fits (total values) ≡ true → sum_value values ≡ Ok (Num (total values))
sum_given [] some h = absurd (omega (arith, some))
sum_given (v ∷ values) some h = in_range (total (v ∷ values)) h

pub sum_raises : (values : List Val) → fits (total values) ≡ false → sum_value values ≡ Err OutOfRange
sum_raises [] h = absurd cc
sum_raises (v ∷ values) h = past_range (total (v ∷ values)) h

pub average_given : (values : List Val) → 1 ≤ length values → fits (int_div (total values *ℤ pos (10 ^ 4)) (pos (length values))) ≡ true
    → average_value values ≡ Ok (Num (int_div (total values *ℤ pos (10 ^ 4)) (pos (length values))))
average_given [] some h = absurd (omega (arith, some))
average_given (v ∷ values) some h = in_range (int_div (total (v ∷ values) *ℤ pos (10 ^ 4)) (pos (length (v ∷ values)))) h

pub average_raises : (values : List Val) → 1 ≤ length values → fits (int_div (total values *ℤ pos (10 ^ 4)) (pos (length values))) ≡ false → average_value values ≡ Err OutOfRange
average_raises [] some h = absurd (omega (arith, some))
average_raises (v ∷ values) some h = past_range (int_div (total (v ∷ values) *ℤ pos (10 ^ 4)) (pos (length (v ∷ values)))) h
