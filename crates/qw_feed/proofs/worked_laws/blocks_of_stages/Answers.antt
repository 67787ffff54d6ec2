use Rattle.std.proofs.Common.{◌≡◌, ℕ, pos, sym, subst, refl, arith}
use Rattle.std.specs.Int.{w64, cast_signed}
use Rattle.qw_types.specs.declared.value.Val.TheVariants as val
use Rattle.qw_scalar.specs.Typing.{IsValueOf}
use Rattle.qw_map.proofs.TurnFacts.{slice_get-set_same}
use Rattle.qw_module.specs.declared.instruction.Const.TheVariants as const
use Rattle.qw_low.specs.Syntax.{constant_of}
use Rattle.qw_low.specs.State.{Number}
use Rattle.qw_low.specs.Raising.{Kept}
use Rattle.qw_low.proofs.Promises.{assign_ends}
use Rattle.qw_low.proofs.Results.{Kept-same, Kept-one}
use Rattle.qw_feed.specs.Cells.{Supplies}
use Rattle.qw_feed.specs.Worked.{two_rows, in_local}
use Rattle.qw_feed.proofs.WorkedFacts.{same_magnitude, same_number}
use Rattle.qw_feed.proofs.worked_laws.blocks_of_stages.Goals as goal

pub returns-clause-true_one : goal.returns-clause-true_one
returns-clause-true_one c = (λ s held room. (omega arith, (Kept-same 6 s, tt, refl)), tt)

pub returns-clause-false_one : goal.returns-clause-false_one
returns-clause-false_one c = λ are. let left = are.0 two_rows tt (omega arith) in omega (arith, same_number 1 0 left.1.2)

pub returns-clause-item : goal.returns-clause-item
returns-clause-item c = (
  λ s held room. assign_ends (λ t. Kept 5 s t × (Supplies (λ p offset octets. ⊥) t.locals in_local.cell (val.Num (pos 7)) × IsValueOf in_local.kind (val.Num (pos 7)))) (λ t. ⊥) (λ code. ⊥) 128 0 5 (constant_of (const.I64 7)) (Number 7) s refl (omega (arith, room))
      (Kept-one s 5 (Number 7), (((7, slice_get-set_same s.locals 5 (Number 7) (omega (arith, room)), omega arith, refl), refl, tt), refl)),
  6,
  omega arith,
  ((omega arith, omega arith), (omega arith, omega arith), tt),
  tt,
)

pub returns-clause-other_item : goal.returns-clause-other_item
returns-clause-other_item c = λ are. let left = are.0 two_rows tt (omega arith) in
    let cell = left.1.1.0.0 in
    let eight : cast_signed w64 7 ≡ pos 8 = subst (λ (n : ℕ). cast_signed w64 n ≡ pos 8) (sym (same_number 7 cell.0 cell.1)) cell.3 in
    omega (arith, same_magnitude 7 8 eight)

pub returns-clause-beside : goal.returns-clause-beside
returns-clause-beside c = λ are. let left = are.0 two_rows tt (omega arith) in
    let kept = left.1.0.below 5 (omega arith) in
    omega (arith, same_number 7 2 kept)
