-- Numbers on which operators raise nothing.
use Rattle.std.proofs.Common.{◌≡◌, ℕ, ℤ, pos, ◌+◌, ◌-◌, ◌*◌, ◌^◌, ◌<◌, ◌≤◌, ◌+ℤ◌, ◌-ℤ◌, ◌*ℤ◌, max, unsigned_abs, Ok, refl, ap, ◌∙◌, arith}
use Rattle.std.proofs.lemmas.Int.{ints, unsigned_abs-mul}
use Rattle.std.proofs.lemmas.Nat.{mul-le}
use Rattle.qw_types.specs.Arithmetic.{bring}
use Rattle.qw_scalar.specs.declared.expression.Operator.TheVariants.{Add, Subtract, Multiply}
use Rattle.qw_wide.proofs.ArithmeticRuns.{checked_in, scaled_abs}
use Rattle.qw_expr.specs.Inner.Guards.{Stays}

brought : (v : ℤ) (m from to : ℕ) → unsigned_abs v ≤ m → m * 10 ^ (to - from) < 10 ^ 18 →
    (bring v from to ≡ Ok (v *ℤ pos (10 ^ (to - from)))) × (unsigned_abs (v *ℤ pos (10 ^ (to - from))) ≤ m * 10 ^ (to - from))
brought v m from to le small =
    let size : unsigned_abs (v *ℤ pos (10 ^ (to - from))) ≡ unsigned_abs v * 10 ^ (to - from) = scaled_abs v (to - from) in
    let more : unsigned_abs v * 10 ^ (to - from) ≤ m * 10 ^ (to - from) = mul-le (unsigned_abs v) (10 ^ (to - from)) m (10 ^ (to - from)) le (omega arith) in
    (checked_in (v *ℤ pos (10 ^ (to - from))) (omega (arith, size, more, small)), omega (arith, size, more))

add_size : (v w : ℤ) → unsigned_abs (v +ℤ w) ≤ unsigned_abs v + unsigned_abs w
add_size v w = omega (arith, ints)

sub_size : (v w : ℤ) → unsigned_abs (v -ℤ w) ≤ unsigned_abs v + unsigned_abs w
sub_size v w = omega (arith, ints)

pub sum_stays : (sa ma sb mb scale a b m : ℕ) → scale ≡ max sa sb → a ≡ ma * 10 ^ (scale - sa) → a < 10 ^ 18 → b ≡ mb * 10 ^ (scale - sb) → b < 10 ^ 18 → m ≡ a + b → m < 10 ^ 18 →
    Stays Add sa ma sb mb scale m × Stays Subtract sa ma sb mb scale m
sum_stays sa ma sb mb scale a b m is_scale is_a small_a is_b small_b is_m small =
    let to : ℕ = max sa sb in
    let same_a : a ≡ ma * 10 ^ (to - sa) = is_a ∙ ap (λ k. ma * 10 ^ (k - sa)) is_scale in
    let same_b : b ≡ mb * 10 ^ (to - sb) = is_b ∙ ap (λ k. mb * 10 ^ (k - sb)) is_scale in (
      record {
        scale_is = is_scale;
        gives = λ v w le_v le_w.
            let x = brought v ma sa to le_v (omega (arith, same_a, small_a)) in
            let y = brought w mb sb to le_w (omega (arith, same_b, small_b)) in
            let p : ℤ = v *ℤ pos (10 ^ (to - sa)) in
            let q : ℤ = w *ℤ pos (10 ^ (to - sb)) in
            let size : unsigned_abs (p +ℤ q) ≤ m = omega (arith, add_size p q, x.1, y.1, same_a, same_b, is_m) in
            (p +ℤ q, rw (x.0, y.0) (checked_in (p +ℤ q) (omega (arith, size, small))), size);
      },
      record {
        scale_is = is_scale;
        gives = λ v w le_v le_w.
            let x = brought v ma sa to le_v (omega (arith, same_a, small_a)) in
            let y = brought w mb sb to le_w (omega (arith, same_b, small_b)) in
            let p : ℤ = v *ℤ pos (10 ^ (to - sa)) in
            let q : ℤ = w *ℤ pos (10 ^ (to - sb)) in
            let size : unsigned_abs (p -ℤ q) ≤ m = omega (arith, sub_size p q, x.1, y.1, same_a, same_b, is_m) in
            (p -ℤ q, rw (x.0, y.0) (checked_in (p -ℤ q) (omega (arith, size, small))), size);
      },
    )

pub product_stays : (sa ma sb mb m : ℕ) → m ≡ ma * mb → m < 10 ^ 18 → Stays Multiply sa ma sb mb (sa + sb) m
product_stays sa ma sb mb m is small = record {
  scale_is = refl;
  gives = λ v w le_v le_w.
      let size : unsigned_abs (v *ℤ w) ≡ unsigned_abs v * unsigned_abs w = unsigned_abs-mul v w in
      let more : unsigned_abs v * unsigned_abs w ≤ ma * mb = mul-le (unsigned_abs v) (unsigned_abs w) ma mb le_v le_w in
      (v *ℤ w, checked_in (v *ℤ w) (omega (arith, size, more, is, small)), omega (arith, size, more, is));
}
