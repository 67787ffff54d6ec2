use Rattle.std.proofs.Common.{◌≡◌, ℕ, zero, suc, ◌<◌, [], ◌∷◌, refl, subst, arith}
use Rattle.std.specs.List.{AllByRecursion}
use Rattle.qw_module.specs.declared.instruction.ValType.{ValType}
use Rattle.qw_module.specs.declared.instruction.ValType.TheVariants.{I32, I64}
use Rattle.qw_module.specs.declared.instruction.Instr.TheVariants as i
use Rattle.qw_module.specs.declared.instruction.Op.TheVariants as o
use Rattle.qw_module.specs.declared.instruction.Const.{Const}
use Rattle.qw_module.specs.declared.instruction.Const.TheVariants as const
use Rattle.qw_module.specs.Numbers.{constant, type_of_constant, values_of}
use Rattle.qw_module.specs.Syntax.{done, op, code_of, sequence_at, named_below, NamesBelow, IsNumbered}
use Rattle.qw_module.specs.Validity.{IsInitial}
use Rattle.qw_module.specs.Worked.{alone}
use Rattle.qw_module.proofs.worked_laws.limits_and_globals.Goals as goal

-- a body of one constant is numbered, and stands for it
numbered : (k : Const) → IsNumbered (alone (i.Op (o.Const k) ∷ []))
numbered k = record { some = omega arith; lower = lower } where
  lower : (n : ℕ) → n < 1 → AllByRecursion (NamesBelow 0 n) (sequence_at (alone (i.Op (o.Const k) ∷ [])) n)
  lower zero below = (tt, tt)
  lower (suc n) below = absurd (omega arith)

code : (k : Const) → code_of (alone (i.Op (o.Const k) ∷ [])) ≡ op (o.Const k) done
unfolding named_below
code k = refl

initial : (k : Const) → constant k < values_of (type_of_constant k) → IsInitial (type_of_constant k) (alone (i.Op (o.Const k) ∷ []))
initial k below = record { numbered = numbered k; value = k; alone = code k; of_type = refl; below = below }

-- the constant that one is
same : (type : ValType) (k : Const) → (h : IsInitial type (alone (i.Op (o.Const k) ∷ []))) → h.value ≡ k
same type k h = cc (code k, h.alone)

pub returns-clause-global : goal.returns-clause-global
returns-clause-global c = (initial (const.I32 4294967295) (omega arith), initial (const.I64 8) (omega arith))

pub returns-clause-of_another_type : goal.returns-clause-of_another_type
returns-clause-of_another_type c = λ h.
    let at : I32 ≡ I64 = subst (λ (k : Const). type_of_constant k ≡ I64) (same I64 (const.I32 7) h) h.of_type in cc at

pub returns-clause-no_value : goal.returns-clause-no_value
returns-clause-no_value c = λ h.
    let at : 4294967296 < values_of I32 = subst (λ (k : Const). constant k < values_of I32) (same I32 (const.I32 4294967296) h) h.below in omega (arith, at)

pub returns-clause-empty : goal.returns-clause-empty
unfolding named_below
returns-clause-empty c = λ type h. let at = h.alone in cc

pub returns-clause-of_two : goal.returns-clause-of_two
unfolding named_below
returns-clause-of_two c = λ type h. let at = h.alone in cc

pub returns-clause-computed : goal.returns-clause-computed
unfolding named_below
returns-clause-computed c = λ type h. let at = h.alone in cc
