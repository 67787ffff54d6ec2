-- Results of exact arithmetic fit.
use Rattle.std.proofs.Common.{◌≡◌, ℕ, ◌-◌, ◌^◌, ℤ, pos, ◌+ℤ◌, ◌-ℤ◌, ◌*ℤ◌, IsTrue, max, Ok, Err, Result, IfOk, arith, refl, subst, sym}
use Rattle.std.proofs.lemmas.Bool.Decides.{nat_tests}
use Rattle.qw_types.specs.Arithmetic.{◌>>=◌, bring, checked, difference_of, fits, product_of, quotient_of, sum_of}
use Rattle.qw_types.specs.declared.code.Code.{Code}

-- what fits where there is a result
abbrev Fit : Result ℤ Code → Type 0
Fit r = IfOk r (λ v. IsTrue (fits v))

checked_fit : (v : ℤ) → Fit (checked v)
checked_fit v = grind (arith, nat_tests)

then_fit : (r : Result ℤ Code) (f : ℤ → Result ℤ Code) → ((x : ℤ) → r ≡ Ok x → Fit (f x)) → Fit (r >>= f)
then_fit (Ok x) f h = h x refl
then_fit (Err e) f h = tt

pub sum_fit : (a : ℤ) (sa : ℕ) (b : ℤ) (sb : ℕ) → IfOk (sum_of a sa b sb) (λ v. IsTrue (fits v))
sum_fit a sa b sb =
    then_fit (bring a sa (max sa sb)) _ (λ x ex. then_fit (bring b sb (max sa sb)) _ (λ y ey. checked_fit (x +ℤ y)))

pub difference_fit : (a : ℤ) (sa : ℕ) (b : ℤ) (sb : ℕ) → IfOk (difference_of a sa b sb) (λ v. IsTrue (fits v))
difference_fit a sa b sb =
    then_fit (bring a sa (max sa sb)) _ (λ x ex. then_fit (bring b sb (max sa sb)) _ (λ y ey. checked_fit (x -ℤ y)))

pub product_fit : (a b : ℤ) → IfOk (product_of a b) (λ v. IsTrue (fits v))
product_fit a b = checked_fit (a *ℤ b)

pub quotient_fit : (a : ℤ) (sa : ℕ) (b : ℤ) (sb : ℕ) → IfOk (quotient_of a sa b sb) (λ v. IsTrue (fits v))
quotient_fit a sa b sb = grind (arith, nat_tests)

pub result_fits : (v : ℤ) (r : Result ℤ Code) → ◌≡◌ {A = Result ℤ Code} (Ok v) r → IfOk r (λ x. IsTrue (fits x)) → IsTrue (fits v)
result_fits v r e h = subst (λ x. IfOk x (λ y. IsTrue (fits y))) (sym e) h

pub bring_fit : (v : ℤ) (from to : ℕ) → IfOk (bring v from to) (λ x. IsTrue (fits x))
bring_fit v from to = checked_fit (v *ℤ pos (10 ^ (to - from)))
