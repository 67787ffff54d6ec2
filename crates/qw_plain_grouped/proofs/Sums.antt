-- Sums and averages of some values, and of none; nothing on the way is past 128 bits.
use Rattle.std.proofs.Common.{◌≡◌, ◌≢◌, ◌∙◌, ◌+◌, ◌^◌, ◌<◌, ◌*◌, ◌+ℤ◌, ◌*ℤ◌, ◌<ℤ◌, ℕ, ℤ, pos, FitsSigned, int_div, unsigned_abs, List, [], ◌∷◌, ◌++◌, length, take, get_or, Ok, refl, sym, ap, arith}
use Rattle.std.specs.Int.{w64, w128}
use Rattle.std.proofs.Math.IntN.{+ℤ_idr}
use Rattle.std.proofs.lemmas.Int.{fits_signed_mul, ints, quot_fits}
use Rattle.std.proofs.lemmas.List.{take_more}
use Rattle.qw_types.specs.Arithmetic.{checked}
use Rattle.qw_types.specs.declared.value.Val.{Val}
use Rattle.qw_types.specs.declared.value.Val.TheVariants.{Null}
use Rattle.qw_scalar.specs.Evaluation.{as_number}
use Rattle.qw_grouped.specs.SetFunctions.{average_value, greater, greatest, least, lesser, number_in, sum_value, total}
use Rattle.qw_grouped.proofs.FunctionLemmas.{greatest_more, least_more, total_append}

pub sum_of_none : (values : List Val) → length values ≡ 0 → sum_value values ≡ Ok Null
sum_of_none [] h = refl
sum_of_none (v ∷ values) h = absurd (omega (arith, h))

pub sum_of_some : (values : List Val) → length values ≢ 0 → sum_value values ≡ as_number (checked (total values))
sum_of_some [] h = absurd (h refl)
sum_of_some (v ∷ values) h = refl

pub average_of_none : (values : List Val) → length values ≡ 0 → average_value values ≡ Ok Null
average_of_none [] h = refl
average_of_none (v ∷ values) h = absurd (omega (arith, h))

pub average_of_some : (values : List Val) → length values ≢ 0 → average_value values ≡ as_number (checked (int_div (total values *ℤ pos (10 ^ 4)) (pos (length values))))
average_of_some [] h = absurd (h refl)
average_of_some (v ∷ values) h = refl

-- ---- within 128 bits

pub product_fits : (sum : ℤ) → unsigned_abs sum < 2 * 10 ^ 33 → FitsSigned w128 (sum *ℤ pos (10 ^ 4))
product_fits sum h = fits_signed_mul w128 sum (pos (10 ^ 4)) (2 * 10 ^ 33) (10 ^ 4) (omega (arith, h)) (omega arith) (omega arith)

pub quotient_fits : (sum count : ℤ) → FitsSigned w128 sum → pos 0 <ℤ count → FitsSigned w128 (int_div sum count)
quotient_fits sum count h some = quot_fits w128 sum count h some

pub sum_fits : (x y : ℤ) → unsigned_abs x < 10 ^ 33 → FitsSigned w64 y → FitsSigned w128 (x +ℤ y)
sum_fits x y hx hy = grind (arith, ints)

pub sum_small : (x y : ℤ) → unsigned_abs x < 10 ^ 33 → FitsSigned w64 y → unsigned_abs (x +ℤ y) < 2 * 10 ^ 33
sum_small x y hx hy = grind (arith, ints)

-- ---- one value more

pub total_more : (values : List Val) (i : ℕ) (v : Val) → i < length values → v ≡ get_or values i v → total (take (i + 1) values) ≡ total (take i values) +ℤ number_in v
total_more values i v lt is =
    ap total (take_more values i v lt ∙ ap (λ w. take i values ++ w ∷ []) (sym is)) ∙ total_append (take i values) (v ∷ [])
    ∙ ap (λ t. total (take i values) +ℤ t) (+ℤ_idr (number_in v))

pub least_step : (first : Val) (values : List Val) (i : ℕ) (v best made : Val) → i < length values → v ≡ get_or values i v → best ≡ least first (take i values) → made ≡ lesser best v
    → made ≡ least first (take (i + 1) values)
least_step first values i v best made lt is so made_is =
    made_is ∙ ap (λ b. lesser b v) so ∙ sym (least_more first v (take i values)) ∙ ap (least first) (sym (take_more values i v lt ∙ ap (λ w. take i values ++ w ∷ []) (sym is)))

pub greatest_step : (first : Val) (values : List Val) (i : ℕ) (v best made : Val) → i < length values → v ≡ get_or values i v → best ≡ greatest first (take i values) → made ≡ greater best v
    → made ≡ greatest first (take (i + 1) values)
greatest_step first values i v best made lt is so made_is =
    made_is ∙ ap (λ b. greater b v) so ∙ sym (greatest_more first v (take i values)) ∙ ap (greatest first) (sym (take_more values i v lt ∙ ap (λ w. take i values ++ w ∷ []) (sym is)))
