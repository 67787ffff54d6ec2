-- Exact numeric arithmetic (ISO/IEC 9075:1992, 6.12 "numeric value expression"; 22.1 for the codes): a value is a whole number
-- with a scale, so many digits of it behind the point. Precision and the scale of a quotient are the implementation's (6.12).
use Rattle.std.specs.Prelude.{ℕ, ◌+◌, ◌-◌, ◌^◌, ◌==◌, max, nat_lt, Bool, ℤ, pos, ◌+ℤ◌, ◌-ℤ◌, ◌*ℤ◌, int_div, unsigned_abs, if◌then◌else◌, Result, Ok, Err}
use Rattle.std.specs.Ordering.{int_cmp}
use Rattle.std.specs.declared.cmp.Ordering.{Ordering}
use Rattle.qw_types.specs.declared.code.Code.{Code}
use Rattle.qw_types.specs.declared.code.Code.TheVariants.{DivZero, OutOfRange}

-- whether a whole number has at most 18 digits
abbrev pub fits : ℤ → Bool
fits v = nat_lt (unsigned_abs v) (10 ^ 18)

-- a result, or "numeric value out of range" (22003) where it doesn't fit
abbrev pub checked : ℤ → Result ℤ Code
checked v = if fits v then Ok v else Err OutOfRange

-- going on with a result
infixl 10 ◌>>=◌
abbrev pub ◌>>=◌ : {A B : Type 0} → Result A Code → (A → Result B Code) → Result B Code
(Ok x) >>= f = f x
(Err code) >>= f = Err code

-- a value of one scale at another that is no smaller
abbrev pub bring : ℤ → (from to : ℕ) → Result ℤ Code
bring v from to = checked (v *ℤ pos (10 ^ (to - from)))

-- a sum and a difference have the larger scale; the left operand is brought first
abbrev pub sum_of : ℤ → ℕ → ℤ → ℕ → Result ℤ Code
sum_of a sa b sb = do
  x ← bring a sa (max sa sb)
  y ← bring b sb (max sa sb)
  checked (x +ℤ y)

abbrev pub difference_of : ℤ → ℕ → ℤ → ℕ → Result ℤ Code
difference_of a sa b sb = do
  x ← bring a sa (max sa sb)
  y ← bring b sb (max sa sb)
  checked (x -ℤ y)

-- a product has the sum of the scales
abbrev pub product_of : ℤ → ℤ → Result ℤ Code
product_of a b = checked (a *ℤ b)

-- A quotient has the dividend's scale, and is truncated toward zero. "Division by zero" (22012) comes first.
abbrev pub quotient_of : ℤ → ℕ → ℤ → ℕ → Result ℤ Code
quotient_of a sa b sb =
    if unsigned_abs b == 0 then Err DivZero
    else do
      x ← bring a sa (sa + sb)
      Ok (int_div x b)

-- how two values compare: as their fractions do, a / 10^sa and b / 10^sb (8.2)
abbrev pub order_of : ℤ → ℕ → ℤ → ℕ → Ordering
order_of a sa b sb = int_cmp (a *ℤ pos (10 ^ sb)) (b *ℤ pos (10 ^ sa))
