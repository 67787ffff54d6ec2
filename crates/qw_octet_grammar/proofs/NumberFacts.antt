-- Facts for reading numbers in LEB128.
use Rattle.std.proofs.Common.{◌≡◌, ℕ, zero, suc, ◌+◌, ◌-◌, ◌*◌, ◌^◌, ◌<◌, ◌≤◌, Bool, true, false, ltb, List, [], ◌∷◌, length, get_or, take, drop, refl, sym, ap, subst, ◌∙◌, arith}
use Rattle.std.proofs.lemmas.Bool.{le-ltb}
use Rattle.std.proofs.lemmas.Nat.{pow-add}
use Rattle.std.proofs.Math.Pow.{pow_mono}
use Rattle.qw_octet_grammar.specs.declared.fault.BinaryFault.{BinaryFault}
use Rattle.qw_octet_grammar.specs.Numbers.{leb, last_octet}
use Rattle.qw_octet_grammar.specs.Grammar.{Grammar, is, after, pick, settle}
use Rattle.qw_octet_grammar.specs.Reading.{Fails, read}
use Rattle.qw_octet_grammar.proofs.Loops.{fails_through, tail_of}

pub read_second : {A : Type 0} (b : Bool) (g h : Grammar A) (octets : List ℕ) → b ≡ false → read (pick b g h) octets ≡ read h octets
read_second true g h octets e = absurd cc
read_second false g h octets e = refl

-- the octets behind one from 128 on fail
pub more_fails : (signed : Bool) (most bits : ℕ) (octets : List ℕ) (e : BinaryFault) → 1 ≤ most → 1 ≤ length octets → 128 ≤ get_or octets 0 0
    → Fails e (read (leb signed (most - 1) (bits - 7)) (take (length octets - 1) (drop 1 octets))) → Fails e (read (leb signed most bits) octets)
unfolding leb read
more_fails signed zero bits octets e some long high h = let none : ⊥ = omega (arith, some) in absurd none
more_fails signed (suc k) bits [] e some long high h = let none : ⊥ = omega (arith, long) in absurd none
more_fails signed (suc k) bits (b ∷ rest) e some long high h =
    let wide : 128 ≤ b = high in
    let one : suc k - 1 ≡ k = omega arith in
    let inner : Fails e (read (leb signed k (bits - 7)) rest) =
    subst (λ n. Fails e (read (leb signed n (bits - 7)) rest)) one (subst (λ w. Fails e (read (leb signed (suc k - 1) (bits - 7)) w)) (tail_of b rest) h) in
    fails_through e (read (leb signed k (bits - 7)) rest) (λ y. read (is ((b - 128) + 128 * y.0)) y.1) _ inner
    (sym (read_second (ltb b 128) (settle (last_octet signed bits b)) (after (leb signed k (bits - 7)) (λ high. is ((b - 128) + 128 * high))) rest (le-ltb b 128 wide)))

-- seven bits more
pub seven_more : (bits high octet : ℕ) → 7 ≤ bits → high < 2 ^ (bits - 7) → octet < 256 → (octet - 128) + 128 * high < 2 ^ bits
seven_more bits high octet le lt small =
    let k : bits ≡ (bits - 7) + 7 = omega arith in
    let e : 2 ^ bits ≡ 2 ^ (bits - 7) * 128 = ap (λ n. 2 ^ n) k ∙ pow-add 2 (bits - 7) 7 in
    omega (arith, e, lt, small)

pub within_64 : (bits n : ℕ) → bits ≤ 64 → n < 2 ^ bits → n < 2 ^ 64
within_64 bits n le lt = let m : 2 ^ bits ≤ 2 ^ 64 = pow_mono le in omega (arith, m, lt)
