-- The steps of conjuncts one within another.
use Rattle.std.proofs.Common.{◌≡◌, ℕ, zero, suc, ◌+◌, List, [], ◌∷◌, ◌++◌, length, refl, sym, ap, ◌∙◌, append_assoc, append-nil, arith}
use Rattle.qw_low.specs.declared.step.LowStep.{LowStep}
use Rattle.qw_low.specs.declared.step.LowStep.TheVariants as step
use Rattle.qw_low.specs.Steps.{expression_steps, steps_of}
use Rattle.qw_low.specs.Syntax.{Statement}
use Rattle.qw_feed.specs.Stages.{Test, tests_block}
use Rattle.qw_operator.specs.Nesting.{opening, openings, closings}

closings-end : (n : ℕ) → closings n ++ (step.Else ∷ step.End ∷ []) ≡ step.Else ∷ step.End ∷ closings n
closings-end zero = refl
closings-end (suc n) = ap (λ (steps : List LowStep). step.Else ∷ step.End ∷ steps) (closings-end n)

pub closings-next : (n : ℕ) → closings n ++ (step.Else ∷ step.End ∷ []) ≡ closings (n + 1)
closings-next n = let next : n + 1 ≡ suc n = omega arith in rw next (closings-end n)

pub tests-steps : (gs : List Test) (rest : Statement) → steps_of (tests_block gs rest) ≡ openings gs ++ (steps_of rest ++ closings (length gs))
tests-steps [] rest = sym (append-nil (steps_of rest))
tests-steps (g ∷ gs) rest =
    let inner : steps_of (tests_block gs rest) ++ (step.Else ∷ step.End ∷ []) ≡ openings gs ++ (steps_of rest ++ closings (suc (length gs))) =
    ap (λ (steps : List LowStep). steps ++ (step.Else ∷ step.End ∷ [])) (tests-steps gs rest)
    ∙ append_assoc (openings gs) (steps_of rest ++ closings (length gs)) (step.Else ∷ step.End ∷ [])
    ∙ ap (λ (steps : List LowStep). openings gs ++ steps) (append_assoc (steps_of rest) (closings (length gs)) (step.Else ∷ step.End ∷ [])
    ∙ ap (λ (steps : List LowStep). steps_of rest ++ steps) (closings-end (length gs))) in
    ap (λ (steps : List LowStep). steps_of g.block ++ (expression_steps g.out ++ (step.If ∷ steps))) inner
    ∙ (ap (λ (steps : List LowStep). steps_of g.block ++ steps) (sym (append_assoc (expression_steps g.out) (step.If ∷ []) (openings gs ++ (steps_of rest ++ closings (suc (length gs)))))
    ∙ sym (append_assoc (opening g.out) (openings gs) (steps_of rest ++ closings (suc (length gs)))))
    ∙ sym (append_assoc (steps_of g.block) (opening g.out ++ openings gs) (steps_of rest ++ closings (suc (length gs)))))
