use Rattle.std.proofs.Common.{◌≡◌, ◌+◌, refl, sym, subst, arith}
use Rattle.std.proofs.lemmas.Option.{same_Some}
use Rattle.qw_linear.specs.Memory.{number_at}
use Rattle.qw_map.specs.Areas.{Area}
use Rattle.qw_low.specs.State.{Column, Own, Number, Address}
use Rattle.qw_low.proofs.worked_laws.memories_that_stand.Goals as goal

pub returns-clause-number : goal.returns-clause-number
returns-clause-number c = λ memory stands.
    let there = stands.cells (Own 0) 8 4 (Number 7) refl in
    subst (λ (a : Area). number_at memory (a.start + 8) 4 ≡ 7) (sym (same_Some (record { start = 65536; size = 65536 }) there.area there.is)) there.means

pub returns-clause-address : goal.returns-clause-address
returns-clause-address c = λ memory stands.
    let there = stands.cells (Own 0) 8 4 (Address (Column 0) 4) refl in
    let word : number_at memory (there.area.start + 8) 4 ≡ 68 = subst (λ (a : Area). number_at memory (there.area.start + 8) 4 ≡ a.start + 4)
    (sym (same_Some (record { start = 64; size = 12 }) there.means.0 there.means.1)) there.means.3 in
    subst (λ (a : Area). number_at memory (a.start + 8) 4 ≡ 68) (sym (same_Some (record { start = 65536; size = 65536 }) there.area there.is)) word

pub returns-clause-one_page : goal.returns-clause-one_page
returns-clause-one_page c = λ memory short stands. omega (arith, short, stands.inside (Own 0) (record { start = 65536; size = 65536 }) refl)

pub returns-clause-locals : goal.returns-clause-locals
returns-clause-locals c = ((record { start = 65536; size = 65536 }, refl, omega arith, refl), ((record { start = 64; size = 12 }, refl, omega arith, refl), (refl, tt)))
