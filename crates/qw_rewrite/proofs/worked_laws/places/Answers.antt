use Rattle.std.proofs.Common.{◌≡◌, ◌∙◌, true, false, [], ◌∷◌, refl}
use Rattle.qw_meaning.specs.WorkedQueries.{is_next, quotient_above_six}
use Rattle.qw_algebra.specs.Node.{filter, join, scan}
use Rattle.qw_rewrite.proofs.Lowest.{not_empty}
use Rattle.qw_rewrite.proofs.worked_laws.places.Goals as goal

pub returns-clause-above_product : goal.returns-clause-above_product
returns-clause-above_product c = λ h. let wrong : true ≡ false = (h.0 refl).0 in cc

pub returns-clause-at_join : goal.returns-clause-at_join
returns-clause-at_join c = λ h. let wrong : true ≡ false = ((h.0 refl).0 refl).0 in cc

pub returns-clause-behind : goal.returns-clause-behind
returns-clause-behind c = ((λ free. tt), ((λ free. tt), (((λ free. tt), tt), ((λ free. tt), tt))))

pub returns-clause-other_side : goal.returns-clause-other_side
returns-clause-other_side c = λ h. let wrong : false ≡ true = h.1.1.0.0 in cc

pub returns-clause-dropped : goal.returns-clause-dropped
returns-clause-dropped c = λ h.
    let shape : filter [] (filter [] (scan 0 3)) ≡ filter h.0 h.1.0 = h.1.1.0 in
    let none : [] ≡ h.0 = cc in
    not_empty h.1.1.1.0.0 (quotient_above_six 0) (none ∙ h.1.1.1.0.1.1)

pub returns-clause-left_above_outer : goal.returns-clause-left_above_outer
returns-clause-left_above_outer c = λ h. let wrong : true ≡ false = (h.0 refl).0 refl in cc

pub returns-clause-own_of_outer : goal.returns-clause-own_of_outer
returns-clause-own_of_outer c = λ h.
    let shape : filter [] (join true (filter [] (scan 0 0)) (filter [] (scan 1 1)) [] []) ≡ filter h.0 (join true h.1.0 h.1.1.0 (is_next 0 64 ∷ []) h.1.1.1.0) = h.1.1.1.1.0 in
    cc
