-- The octets of texts in UTF-8 are below 256.
use Rattle.std.proofs.Common.{◌≡◌, ℕ, ◌+◌, ◌/◌, ◌%◌, ◌<◌, ◌≤◌, ◌⊎◌, true, List, [], ◌∷◌, ◌++◌, IsUtf8, sym, subst, ⊎_elim, arith}
use Rattle.std.specs.List.{AllByRecursion, concat}
use Rattle.std.proofs.lemmas.Bool.{cases_lt, lt-ltb, le-ltb, and_parts}
use Rattle.std.proofs.lemmas.List.Elements.{All-from_recursion}
use lib.Utf8.{encode, encodes, scalar, scalars, scalar_cases}
use Rattle.qw_linear.specs.Memory.{AreOctets}

abbrev Octets : List ℕ → Type 0
Octets xs = AllByRecursion (λ octet. octet < 256) xs

of_both : (xs ys : List ℕ) → Octets xs → Octets ys → Octets (xs ++ ys)
of_both [] ys h g = g
of_both (x ∷ xs) ys h g = (h.0, of_both xs ys h.1 g)

scalar_below : (c : ℕ) → scalar c ≡ true → c < 1114112
scalar_below c is = ⊎_elim (λ h. omega (arith, h)) (λ h. h.1) (scalar_cases c is)

of_one : (c : ℕ) → scalar c ≡ true → Octets (encode c)
unfolding encode
of_one c is =
    let below = scalar_below c is in
    ⊎_elim
    (λ (h : c < 128). rw (lt-ltb c 128 h) (omega (arith, h), tt))
    (λ (h : 128 ≤ c). ⊎_elim
    (λ (k : c < 2048). rw (le-ltb c 128 h, lt-ltb c 2048 k) (omega (arith, k), (omega arith, tt)))
    (λ (k : 2048 ≤ c). ⊎_elim
    (λ (l : c < 65536). rw (le-ltb c 128 h, le-ltb c 2048 k, lt-ltb c 65536 l) (omega (arith, l), (omega arith, (omega arith, tt))))
    (λ (l : 65536 ≤ c). rw (le-ltb c 128 h, le-ltb c 2048 k, le-ltb c 65536 l) (omega (arith, below), (omega arith, (omega arith, (omega arith, tt)))))
    (cases_lt c 65536))
    (cases_lt c 2048))
    (cases_lt c 128)

of_all : (cs : List ℕ) → scalars cs ≡ true → Octets (encodes cs)
of_all [] are = tt
of_all (c ∷ cs) are =
    let parts = and_parts (scalar c) (scalars cs) are in
    of_both (encode c) (encodes cs) (of_one c parts.0) (of_all cs parts.1)

text_octets : (t : List ℕ) → IsUtf8 t → Octets t
text_octets t is = subst Octets is.1.1 (of_all is.0 is.1.0)

texts_octets : (texts : List (List ℕ)) → AllByRecursion IsUtf8 texts → Octets (concat texts)
texts_octets [] are = tt
texts_octets (t ∷ texts) are = of_both t (concat texts) (text_octets t are.0) (texts_octets texts are.1)

-- those that stand in a layout
pub literal_octets : (texts : List (List ℕ)) (literals : List ℕ) → AllByRecursion IsUtf8 texts → literals ≡ concat texts → AreOctets literals
literal_octets texts literals are is = subst AreOctets (sym is) (All-from_recursion (λ octet. octet < 256) (concat texts) (texts_octets texts are))
