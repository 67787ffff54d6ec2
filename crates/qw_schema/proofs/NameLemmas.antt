-- The name of a delimited identifier is what stands between its quotes.
use Rattle.std.proofs.Common.{◌≡◌, ℕ, ◌-◌, List, [], ◌∷◌, ◌++◌, length, take, refl, sym, ap, ◌∙◌, arith, inl, inr, false}
use Rattle.std.specs.Prelude.{eqb}
use Rattle.std.proofs.lemmas.Bool.{cases_Bool, eqb-true}
use Rattle.std.proofs.lemmas.List.{length-append}
use Rattle.qw_token.specs.Token.{doubled, quoted}
use Rattle.qw_ast.specs.Grammar.{name_of}
use Rattle.qw_ast.specs.Quoted.{undoubled}
use Rattle.qw_ast.specs.Inner.Quoted.{behind_octet}
use Rattle.qw_ast.proofs.QuotedLemmas.{undoubled_more}

behind_plain : (b : ℕ) (bs : List ℕ) → eqb b 34 ≡ false → behind_octet 34 b bs ≡ bs
behind_plain b [] e = refl
behind_plain b (c ∷ cs) e = rw e refl

undoubled_doubled : (name : List ℕ) → undoubled 34 (doubled 34 name) ≡ name
undoubled_doubled [] = refl
undoubled_doubled (b ∷ bs) =
    elim (cases_Bool (eqb b 34)) [
      | inl e ↦ rw e (ap (λ x. 34 ∷ x) (undoubled_doubled bs) ∙ ap (λ c. c ∷ bs) (sym (eqb-true b 34 e)))
      | inr e ↦ rw e (undoubled_more 34 b (doubled 34 bs) ∙ ap (λ x. b ∷ undoubled 34 x) (behind_plain b (doubled 34 bs) e) ∙ ap (λ x. b ∷ x) (undoubled_doubled bs))
    ]

take_front : (xs ys : List ℕ) → take (length xs) (xs ++ ys) ≡ xs
take_front [] ys = refl
take_front (x ∷ xs) ys = ap (λ z. x ∷ z) (take_front xs ys)

pub name_of-quoted : (name : List ℕ) → name_of (quoted 34 name) ≡ name
name_of-quoted name =
    let xs = doubled 34 name in
    let count : length (quoted 34 name) - 2 ≡ length xs = omega (arith, length-append xs (34 ∷ [])) in
    ap (λ n. undoubled 34 (take n (xs ++ 34 ∷ []))) count ∙ ap (undoubled 34) (take_front xs (34 ∷ [])) ∙ undoubled_doubled name
