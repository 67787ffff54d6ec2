use Rattle.std.proofs.Common.{[], ◌∷◌, refl, subst, ⊎_elim, arith}
use Rattle.qw_map.specs.Areas.{World}
use Rattle.qw_low.specs.State.{Column}
use Rattle.qw_low.specs.Places.{Fits}
use Rattle.qw_low.specs.Worked.{state, world}
use Rattle.qw_low.proofs.worked_laws.worlds_that_fit.Goals as goal

pub returns-clause-at_zero : goal.returns-clause-at_zero
returns-clause-at_zero c = λ w is fits.
    let there : Fits (record world { mapped = (record { start = 0; size = 12 }) ∷ [] }) state = subst (λ (x : World). Fits x state) is fits in
    absurd (omega (arith, there.positive (Column 0) (record { start = 0; size = 12 }) refl))

pub returns-clause-overlapping : goal.returns-clause-overlapping
returns-clause-overlapping c = λ w is fits.
    let there : Fits (record world { mapped = (record { start = 65535; size = 12 }) ∷ [] }) state = subst (λ (x : World). Fits x state) is fits in
    ⊎_elim (λ same. cc) (λ apart. ⊎_elim (λ before. omega (arith, before)) (λ behind. omega (arith, behind)) apart)
    (there.apart 0 (Column 0) (record { start = 65536; size = 65536 }) (record { start = 65535; size = 12 }) refl refl)
