-- What was read tells how it was read.
use Rattle.std.proofs.Common.{◌≡◌, ℕ, Bool, true, false, List, Option, Some, None, Ok, refl, ap}
use Rattle.qw_octet_grammar.specs.Grammar.{Grammar, is, after, pick}
use Rattle.qw_octet_grammar.specs.Reading.{read}
use Rattle.qw_octet_grammar.proofs.GrammarLaws.{bind_ok, ok_is}
use Rattle.qw_binary.specs.Instructions.{given}

module _ {A : Type 0} (P : Type 0) (x : A) (rest : List ℕ) where
  -- from what a grammar gives here
  abbrev pub Gets : List ℕ → Grammar A → Type 0
  Gets bytes g = read g bytes ≡ Ok (x, rest) → P

  pub got-pick : (bytes : List ℕ) (b : Bool) (g h : Grammar A) → (b ≡ true → Gets bytes g) → (b ≡ false → Gets bytes h) → Gets bytes (pick b g h)
  got-pick bytes true g h one other = one refl
  got-pick bytes false g h one other = other refl

  pub got-given : {C : Type 0} (bytes : List ℕ) (o : Option C) (k : C → Grammar A) (g : Grammar A) → ((y : C) → o ≡ Some y → Gets bytes (k y)) → Gets bytes g → Gets bytes (given o k g)
  got-given bytes (Some y) k g one other = one y refl
  got-given bytes None k g one other = other

  pub got-is : (bytes : List ℕ) (y : A) → (y ≡ x → bytes ≡ rest → P) → Gets bytes (is y)
  unfolding read
  got-is bytes y one e = let q = ok_is (y, bytes) (x, rest) e in one (ap (λ z. z.0) q) (ap (λ z. z.1) q)

  pub got-after : {C : Type 0} (bytes : List ℕ) (g : Grammar C) (k : C → Grammar A) → ((y : C) (mid : List ℕ) → read g bytes ≡ Ok (y, mid) → Gets mid (k y)) → Gets bytes (after g k)
  unfolding read
  got-after bytes g k each e = let a = bind_ok (read g bytes) (λ y. read (k y.0) y.1) (x, rest) e in each a.0.0 a.0.1 a.1 a.2
