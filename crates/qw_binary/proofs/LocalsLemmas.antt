-- How many locals runs have.
use Rattle.std.proofs.Common.{◌≡◌, ℕ, zero, suc, ◌+◌, ◌-◌, ◌^◌, ◌<◌, min, ltb, List, [], ◌∷◌, length, get_or, take, sym, ap, ◌∙◌, arith, inl, inr, add-one}
use Rattle.std.proofs.lemmas.Bool.{cases_lt, le-ltb, lt-ltb}
use Rattle.qw_module.specs.declared.module.Locals.{Locals}
use Rattle.qw_binary.specs.Sections.{locals_count}

pub count_more : (i : ℕ) (xs : List Locals) (d : Locals) → i < length xs → locals_count (take (i + 1) xs) ≡ locals_count (take i xs) + (get_or xs i d).count
count_more i xs d lt = ap (λ n. locals_count (take n xs)) (add-one i) ∙ more i xs d lt
  where
    more : (i : ℕ) (xs : List Locals) (d : Locals) → i < length xs → locals_count (take (suc i) xs) ≡ locals_count (take i xs) + (get_or xs i d).count
    more i [] d lt = let none : ⊥ = omega (arith, lt) in absurd none
    more zero (x ∷ xs) d lt = omega arith
    more (suc i) (x ∷ xs) d lt = omega (arith, more i xs d (omega (arith, lt)))

-- a sum that stays at the greatest number instead of wrapping is small where the sum is
pub few_where : (sum all : ℕ) → sum ≡ min all (2 ^ 64 - 1) → ltb sum (2 ^ 32) ≡ ltb all (2 ^ 32)
few_where sum all e = elim (cases_lt all (2 ^ 32)) [
  | inl lt ↦ lt-ltb sum (2 ^ 32) (omega (arith, e, lt)) ∙ sym (lt-ltb all (2 ^ 32) lt)
  | inr le ↦ le-ltb sum (2 ^ 32) (omega (arith, e, le)) ∙ sym (le-ltb all (2 ^ 32) le)
]
