use Rattle.std.proofs.Common.{◌≡◌, ℕ, pos, List, [], ◌∷◌, refl, sym, ap, ◌∙◌, arith}
use Rattle.std.specs.List.{sum_by}
use Rattle.std.proofs.lemmas.List.Sorted.{sum_by-IsPermutation}
use Rattle.std.proofs.lemmas.Option.{same_Some}
use Rattle.qw_types.specs.declared.value.Val.{Val}
use Rattle.qw_types.specs.declared.value.Val.TheVariants.{Num}
use Rattle.qw_promise.proofs.worked_laws.returns_that_answer.Goals as goal

number_in : List Val → ℕ
number_in [] = 0
number_in (Num (pos n) ∷ row) = n
number_in (_ ∷ row) = 0

pub returns-clause-other_rows : goal.returns-clause-other_rows
unfolding number_in
returns-clause-other_rows c layout most pages descriptor w memory at answers =
    let bag = answers.1.0 in
    let bag_is : bag ≡ (Num (pos 4) ∷ []) ∷ [] = same_Some bag ((Num (pos 4) ∷ []) ∷ []) (sym answers.1.2 ∙ at) in
    let sums : sum_by number_in bag ≡ sum_by number_in ((Num (pos 7) ∷ []) ∷ []) = sum_by-IsPermutation number_in ((Num (pos 7) ∷ []) ∷ []) bag answers.1.1 in
    let four : sum_by number_in bag ≡ sum_by number_in ((Num (pos 4) ∷ []) ∷ []) = ap (sum_by number_in) bag_is in
    let first : sum_by number_in ((Num (pos 7) ∷ []) ∷ []) ≡ 7 = refl in
    let other : sum_by number_in ((Num (pos 4) ∷ []) ∷ []) ≡ 4 = refl in
    omega (arith, sums, four, first, other)
