use Rattle.std.proofs.Common.{◌≡◌, ℕ, zero, suc, [], ◌∷◌, Some, slice_get, refl, ap, arith}
use Rattle.std.proofs.lemmas.Option.{same_Some}
use Rattle.qw_low.specs.State.{Number}
use Rattle.qw_read.proofs.ReadyColumns.{same_number}
use Rattle.qw_read.proofs.worked_laws.texts_that_lie.Goals as goal

-- the one octet of a text
one_octet : (i octet : ℕ) → slice_get (65 ∷ []) i ≡ Some octet → Some (Number 65) ≡ Some (Number octet)
one_octet zero octet is = ap (λ (k : ℕ). Some (Number k)) (same_Some 65 octet is)
one_octet (suc i) octet is = absurd cc

pub returns-clause-behind : goal.returns-clause-behind
returns-clause-behind c = (refl, refl, (refl, refl, tt))

pub returns-clause-overlap : goal.returns-clause-overlap
returns-clause-overlap c = λ are. let at = are.2.0 in omega (arith, at)

pub returns-clause-there : goal.returns-clause-there
returns-clause-there c = (refl, record { size = 65536; sized = refl; inside = omega arith; each = λ i octet is. one_octet i octet is }, tt)

pub returns-clause-past_the_page : goal.returns-clause-past_the_page
returns-clause-past_the_page c = λ there.
    let same : 65536 ≡ there.1.size = same_Some 65536 there.1.size there.1.sized in
    let inside = there.1.inside in
    omega (arith, same, inside)

pub returns-clause-other_octet : goal.returns-clause-other_octet
returns-clause-other_octet c = λ there. let same : 65 ≡ 66 = same_number 65 66 (there.1.each 0 66 refl) in omega (arith, same)

pub returns-clause-operand : goal.returns-clause-operand
returns-clause-operand c = (refl, refl, refl)
