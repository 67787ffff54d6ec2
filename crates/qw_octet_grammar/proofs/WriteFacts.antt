-- Facts for writing numbers in LEB128.
use Rattle.std.proofs.Common.{◌≡◌, ℕ, zero, suc, ◌+◌, ◌-◌, ◌*◌, ◌/◌, ◌%◌, ◌^◌, ◌<◌, ◌≤◌, Bool, ltb, List, [], ◌∷◌, ◌++◌, Result, Ok, refl, sym, ap, subst, ◌∙◌, append_assoc, arith, inl, inr}
use Rattle.std.proofs.lemmas.Bool.{cases_lt, le-ltb, lt-ltb}
use Rattle.std.proofs.lemmas.List.{append-nil}
use Rattle.std.proofs.Math.Pow.{pow_mono}
use Rattle.std.proofs.lemmas.Nat.{pow-add}
use Rattle.qw_octet_grammar.specs.declared.fault.BinaryFault.{BinaryFault}
use Rattle.qw_octet_grammar.specs.Grammar.{is, after, settle, Spells}
use Rattle.qw_octet_grammar.specs.Numbers.{leb, last_octet}
use Rattle.qw_octet_grammar.specs.Writing.{Puts}
use Rattle.qw_octet_grammar.proofs.WriteLaws.{spells_first, spells_second}

-- a number that isn't small has more bits
pub many_bits : (value bits : ℕ) → 64 ≤ value → value < 2 ^ bits → 6 < bits
many_bits value bits big lt =
    elim (cases_lt 6 bits) [
      | inl high ↦ high
      | inr low ↦ (let m : 2 ^ bits ≤ 2 ^ 6 = pow_mono low in let none : ⊥ = omega (arith, m, lt, big) in absurd none)
    ]

settled : (r : Result ℕ BinaryFault) (value : ℕ) → r ≡ Ok value → Spells (settle r) value []
unfolding Spells
settled r value e = rw e (refl, refl)

-- the last octet
pub put_last : (signed : Bool) (most bits value b : ℕ) (old : List ℕ) → 1 ≤ most → b < 128 → last_octet signed bits b ≡ Ok value → Puts (leb signed most bits) value old (old ++ b ∷ [])
unfolding leb Spells Puts
put_last signed zero bits value b old some small e = let none : ⊥ = omega (arith, some) in absurd none
put_last signed (suc k) bits value b old some small e =
    (b ∷ [], refl, spells_first (ltb b 128) (settle (last_octet signed bits b)) (after (leb signed k (bits - 7)) (λ high. is ((b - 128) + 128 * high))) value [] (lt-ltb b 128 small) (settled (last_octet signed bits b) value e))

-- an octet with those behind it
pub put_more : (signed : Bool) (most bits value : ℕ) (old new : List ℕ) → 1 ≤ most → Puts (leb signed (most - 1) (bits - 7)) (value / 128) (old ++ (value % 128 + 128) ∷ []) new → Puts (leb signed most bits) value old new
unfolding leb Spells Puts
put_more signed zero bits value old new some h = let none : ⊥ = omega (arith, some) in absurd none
put_more signed (suc k) bits value old new some h =
    let b : ℕ = value % 128 + 128 in
    let one : suc k - 1 ≡ k = omega arith in
    let inner : Spells (leb signed k (bits - 7)) (value / 128) h.0 = subst (λ n. Spells (leb signed n (bits - 7)) (value / 128) h.0) one h.2 in
    let whole : (b - 128) + 128 * (value / 128) ≡ value = omega arith in (
      b ∷ h.0,
      h.1 ∙ append_assoc old (b ∷ []) h.0,
      spells_second (ltb b 128) (settle (last_octet signed bits b)) (after (leb signed k (bits - 7)) (λ high. is ((b - 128) + 128 * high))) value h.0 (le-ltb b 128 (omega arith))
          (value / 128, h.0, [], sym (append-nil h.0), inner, (whole, refl)),
    )

-- seven bits fewer
pub seven_less : (value bits : ℕ) → 7 < bits → value < 2 ^ bits → value / 128 < 2 ^ (bits - 7)
seven_less value bits more lt =
    let k : bits ≡ (bits - 7) + 7 = omega arith in
    let e : 2 ^ bits ≡ 2 ^ (bits - 7) * 128 = ap (λ n. 2 ^ n) k ∙ pow-add 2 (bits - 7) 7 in
    omega (arith, e, lt)
