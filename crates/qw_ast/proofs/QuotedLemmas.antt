-- What stands between quotes: an octet, and what stands behind it.
use Rattle.std.proofs.Common.{◌≡◌, ℕ, suc, ◌+◌, ◌-◌, ◌≤◌, List, [], ◌∷◌, length, take, drop, get_or, refl, ap, ◌∙◌, arith, inl, inr}
use Rattle.std.specs.Prelude.{eqb}
use Rattle.std.proofs.lemmas.Bool.{cases_Bool}
use Rattle.std.proofs.lemmas.Slice.{between_to_end}
use Rattle.qw_ast.specs.Quoted.{undoubled}
use Rattle.qw_ast.specs.Inner.Quoted.{behind_octet}

pub undoubled_more : (quote b : ℕ) (bs : List ℕ) → undoubled quote (b ∷ bs) ≡ b ∷ undoubled quote (behind_octet quote b bs)
undoubled_more quote b [] = refl
undoubled_more quote b (c ∷ cs) =
    elim (cases_Bool (eqb b quote)) [
      | inl e ↦ rw e refl
      | inr e ↦ rw e refl
    ]

pub behind_octet_shorter : (quote b : ℕ) (bs : List ℕ) → length (behind_octet quote b bs) ≤ length bs
behind_octet_shorter quote b [] = omega arith
behind_octet_shorter quote b (c ∷ cs) =
    elim (cases_Bool (eqb b quote)) [
      | inl e ↦ rw e (omega arith)
      | inr e ↦ rw e (omega arith)
    ]

counted_next : (quote counted all most : ℕ) (rest after : List ℕ) → 1 ≤ length rest → after ≡ behind_octet quote (get_or rest 0 0) (drop 1 rest) → counted + length (undoubled quote rest) ≡ all → counted + length rest ≤ most
    → ((counted + 1) + length (undoubled quote after) ≡ all) × ((counted + 1) + length after ≤ most)
counted_next quote counted all most [] after some is same few = absurd (omega (arith, some))
counted_next quote counted all most (b ∷ bs) after some is same few =
    let next : length (undoubled quote after) ≡ length (undoubled quote (behind_octet quote b bs)) = ap (λ x. length (undoubled quote x)) is in
    let shorter : length after ≡ length (behind_octet quote b bs) = ap length is in
    let one : length (undoubled quote (b ∷ bs)) ≡ suc (length (undoubled quote (behind_octet quote b bs))) = ap length (undoubled_more quote b bs) in
    (omega (arith, one, same, next), omega (arith, behind_octet_shorter quote b bs, few, shorter))

-- what the loop keeps behind an octet
pub octet_counted : (quote counted all most : ℕ) (rest after : List ℕ) → 1 ≤ length rest → after ≡ behind_octet quote (get_or rest 0 0) (take (length rest - 1) (drop 1 rest)) → counted + length (undoubled quote rest) ≡ all → counted + length rest ≤ most
    → ((counted + 1) + length (undoubled quote after) ≡ all) × ((counted + 1) + length after ≤ most)
octet_counted quote counted all most rest after some is same few =
    counted_next quote counted all most rest after some (is ∙ ap (behind_octet quote (get_or rest 0 0)) (between_to_end rest 1 (length rest) (omega arith))) same few
