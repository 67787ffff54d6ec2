use Rattle.std.proofs.Common.{List, [], ◌∷◌, ◌++◌, ap, ◌∙◌, append_assoc}
use Rattle.qw_low.specs.declared.step.LowStep.{LowStep}
use Rattle.qw_low.specs.declared.step.LowStep.TheVariants as step
use Rattle.qw_operator.specs.Nesting.{closings}
use Rattle.qw_operator.proofs.NestingSteps.{closings-next}
use Rattle.qw_operator.proofs.nesting.close_tests.Goals as goal

pub loop-test-preserved : goal.loop-test-preserved
loop-test-preserved c =
    c.in_ok-extend_from_slice.ensures.items ∙ ap (λ (steps : List LowStep). steps ++ (step.Else ∷ step.End ∷ [])) c.loop-test.invariant
    ∙ append_assoc c.args.block.now.code.items (closings c.loop-test._test) (step.Else ∷ step.End ∷ [])
    ∙ ap (λ (steps : List LowStep). c.args.block.now.code.items ++ steps) (closings-next c.loop-test._test)
