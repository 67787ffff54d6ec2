-- The steps around what is done where conjuncts are true.
use Rattle.std.specs.Prelude.{ℕ, zero, suc, List, [], ◌∷◌, ◌++◌}
use Rattle.qw_low.specs.declared.step.LowStep.{LowStep}
use Rattle.qw_low.specs.declared.step.LowStep.TheVariants as step
use Rattle.qw_low.specs.Steps.{expression_steps, steps_of}
use Rattle.qw_low.specs.Syntax.{Expression}
use Rattle.qw_feed.specs.Stages.{Test}

-- behind a conjunct's block, with an expression that is 1 where it is true
abbrev pub opening : Expression → List LowStep
opening out = expression_steps out ++ step.If ∷ []

-- the blocks of conjuncts, each within the one before
abbrev pub openings : List Test → List LowStep
openings [] = []
openings (g ∷ gs) = steps_of g.block ++ (opening g.out ++ openings gs)

-- the steps that end so many conjuncts' choices
abbrev pub closings : ℕ → List LowStep
closings zero = []
closings (suc n) = step.Else ∷ step.End ∷ closings n
