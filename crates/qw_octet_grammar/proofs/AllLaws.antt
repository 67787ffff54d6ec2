-- The laws of grammars for items to the end of the octets.
use Rattle.std.proofs.Common.{◌≡◌, ℕ, zero, suc, ◌≤◌, List, [], ◌∷◌, length, Ok, Err, refl, ap, ◌∙◌, arith, inl, inr}
use Rattle.std.proofs.lemmas.List.{length-append}
use Rattle.qw_octet_grammar.specs.declared.fault.BinaryFault.{BinaryFault}
use Rattle.qw_octet_grammar.specs.Grammar.{Grammar, SpellsAll, StuckAmong}
use Rattle.qw_octet_grammar.specs.Reading.{read, read_all}
use Rattle.qw_octet_grammar.proofs.GrammarLaws.{bind_ok, bind_err, ok_is, takes, again, stuck_where, fails_where}

module _ {S : Type 0} (step : S → ℕ → Grammar S) where
  pub all_takes : (n : ℕ) (s : S) (bytes : List ℕ) (t : S) → read_all step n s bytes ≡ Ok t → SpellsAll step n s t bytes
  all_takes zero s [] t e = ok_is s t e
  all_takes (suc n) s [] t e = ok_is s t e
  all_takes zero s (b ∷ bytes) t e = absurd cc
  all_takes (suc n) s (b ∷ bytes) t e =
      let a = bind_ok (read (step s b) bytes) (λ y. read_all step n y.0 y.1) t e in
      let k = takes (step s b) bytes a.0.0 a.0.1 a.1 in
      (a.0.0, k.0, a.0.1, k.1, k.2, all_takes n a.0.0 a.0.1 t a.2)

  pub all_again : (n : ℕ) (s t : S) (bytes : List ℕ) (m : ℕ) → SpellsAll step n s t bytes → length bytes ≤ m → read_all step m s bytes ≡ Ok t
  all_again zero s t [] zero h le = ap Ok h
  all_again zero s t [] (suc m) h le = ap Ok h
  all_again (suc n) s t [] zero h le = ap Ok h
  all_again (suc n) s t [] (suc m) h le = ap Ok h
  all_again zero s t (b ∷ bytes) m h le = absurd h
  all_again (suc n) s t (b ∷ bytes) zero h le = let none : ⊥ = omega (arith, le) in absurd none
  all_again (suc n) s t (b ∷ bytes) (suc m) h le =
      let (mid, first, second, e, a, d) = h in
      let one : read (step s b) bytes ≡ Ok (mid, second) = ap (read (step s b)) e ∙ again (step s b) mid first second a in
      rw one (all_again n mid t second m d (omega (arith, le, ap length e, length-append first second)))

  pub all_stuck : (n : ℕ) (s : S) (bytes : List ℕ) (f : BinaryFault) → length bytes ≤ n → read_all step n s bytes ≡ Err f → StuckAmong step n s bytes f
  all_stuck zero s [] f le e = absurd cc
  all_stuck (suc n) s [] f le e = absurd cc
  all_stuck zero s (b ∷ bytes) f le e = let none : ⊥ = omega (arith, le) in absurd none
  all_stuck (suc n) s (b ∷ bytes) f le e =
      elim (bind_err (read (step s b) bytes) (λ y. read_all step n y.0 y.1) f e) [
        | inl a ↦ inl (stuck_where (step s b) bytes f a)
        | inr a ↦
            let k = takes (step s b) bytes a.0.0 a.0.1 a.1 in
            inr (a.0.0, k.0, a.0.1, k.1, k.2, all_stuck n a.0.0 a.0.1 f (omega (arith, le, ap length k.1, length-append k.0 a.0.1)) a.2)
      ]

  pub all_fails : (n : ℕ) (s : S) (bytes : List ℕ) (f : BinaryFault) (m : ℕ) → StuckAmong step n s bytes f → length bytes ≤ m → read_all step m s bytes ≡ Err f
  all_fails zero s bytes f m h le = absurd h
  all_fails (suc n) s [] f m h le = absurd h
  all_fails (suc n) s (b ∷ bytes) f zero h le = let none : ⊥ = omega (arith, le) in absurd none
  all_fails (suc n) s (b ∷ bytes) f (suc m) h le =
      elim h [
        | inl a ↦ rw (fails_where (step s b) bytes f a) refl
        | inr a ↦
            let (mid, first, second, e, q, d) = a in
            let one : read (step s b) bytes ≡ Ok (mid, second) = ap (read (step s b)) e ∙ again (step s b) mid first second q in
            rw one (all_fails n mid second f m d (omega (arith, le, ap length e, length-append first second)))
      ]
