use Rattle.std.proofs.Common.{ℕ, ◌++◌, List, [], ◌∷◌, ap, ◌∙◌}
use Rattle.qw_module.specs.declared.instruction.ValType.TheVariants.{I64}
use Rattle.qw_module.specs.declared.instruction.Binary.TheVariants.{Sub}
use Rattle.qw_module.specs.declared.instruction.Const.TheVariants as const
use Rattle.qw_module.specs.declared.instruction.Op.TheVariants as o
use Rattle.qw_low.specs.declared.step.LowStep.{LowStep}
use Rattle.qw_low.specs.declared.step.LowStep.TheVariants as step
use Rattle.qw_low.specs.Syntax.{is_zero, local, seq, skip}
use Rattle.qw_low.proofs.Appended.{on_ok}
use Rattle.qw_limit.specs.Counting.{less_block}
use Rattle.qw_operator.proofs.put.push_guarded.Goals as goal

abbrev test_steps : ℕ → List LowStep
test_steps z = step.Op (o.LocalGet z) ∷ step.Op (o.Eqz I64) ∷ []

abbrev less_steps : ℕ → List LowStep
less_steps z = step.Op (o.LocalGet z) ∷ step.Op (o.Const (const.I64 1)) ∷ step.Op (o.Binary I64 Sub) ∷ step.Op (o.LocalSet z) ∷ []

pub returns : goal.returns
returns c =
    on_ok _ _ c.choose.result
    (λ chosen a is.
    chosen (is_zero I64 (local c.args.guard)) skip (seq a (less_block c.args.guard)) (c.in_ok-extend_from_slice-2.ensures.items ∙ ap (λ (l : List LowStep). l ++ test_steps c.args.guard) c.new-test.ensures) c.new-nothing.ensures
    (c.in_ok-extend_from_slice.ensures.items ∙ ap (λ (l : List LowStep). l ++ less_steps c.args.guard) is))
    c.choose.ensures
