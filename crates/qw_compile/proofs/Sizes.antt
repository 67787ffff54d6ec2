-- A statement has at most twice as many instructions as steps.
use Rattle.std.proofs.Common.{◌≡◌, ◌+◌, ◌*◌, ◌≤◌, [], ◌∷◌, ◌++◌, length, refl, length-append, arith}
use Rattle.qw_module.specs.declared.instruction.ValType.TheVariants.{I32}
use Rattle.qw_module.specs.declared.instruction.Binary.TheVariants.{Add, Sub}
use Rattle.qw_module.specs.declared.instruction.Op.TheVariants as o
use Rattle.qw_low.specs.declared.step.LowStep.{LowStep}
use Rattle.qw_low.specs.declared.step.LowStep.TheVariants as step
use Rattle.qw_low.specs.Syntax.{Expression, constant_of, local, unop, binop, divop, is_zero, relop, cvtop, advance, retreat, Statement, skip, seq, assign, load, store, conditional, while, request, raise, exit}
use Rattle.qw_low.specs.Meaning.{cost}
use Rattle.qw_low.specs.Size.{size}
use Rattle.qw_low.specs.Steps.{expression_steps, request_steps, steps_of}
use Rattle.qw_low.specs.Translation.{unaligned}

pub two_steps : (a b : Expression) (last : LowStep) → length (expression_steps a) ≡ cost a → length (expression_steps b) ≡ cost b → length (expression_steps a ++ (expression_steps b ++ last ∷ [])) ≡ cost a + cost b + 1
two_steps a b last one two =
    let outer : length (expression_steps a ++ (expression_steps b ++ last ∷ [])) ≡ length (expression_steps a) + length (expression_steps b ++ last ∷ []) = length-append (expression_steps a) (expression_steps b ++ last ∷ []) in
    let inner : length (expression_steps b ++ last ∷ []) ≡ length (expression_steps b) + 1 = length-append (expression_steps b) (last ∷ []) in
    omega (arith, outer, inner, one, two)

one_step : (a : Expression) (last : LowStep) → length (expression_steps a) ≡ cost a → length (expression_steps a ++ last ∷ []) ≡ cost a + 1
one_step a last one = let outer : length (expression_steps a ++ last ∷ []) ≡ length (expression_steps a) + 1 = length-append (expression_steps a) (last ∷ []) in omega (arith, outer, one)

pub cost_steps : (e : Expression) → length (expression_steps e) ≡ cost e
cost_steps (constant_of c) = refl
cost_steps (local x) = refl
cost_steps (unop t u e) = one_step e (step.Op (o.Unary t u)) (cost_steps e)
cost_steps (binop t b l r) = two_steps l r (step.Op (o.Binary t b)) (cost_steps l) (cost_steps r)
cost_steps (divop t d l r) = two_steps l r (step.Op (o.Division t d)) (cost_steps l) (cost_steps r)
cost_steps (is_zero t e) = one_step e (step.Op (o.Eqz t)) (cost_steps e)
cost_steps (relop t r left right) = two_steps left right (step.Op (o.Relation t r)) (cost_steps left) (cost_steps right)
cost_steps (cvtop c e) = one_step e (step.Op (o.Convert c)) (cost_steps e)
cost_steps (advance a n) = two_steps a n (step.Op (o.Binary I32 Add)) (cost_steps a) (cost_steps n)
cost_steps (retreat a n) = two_steps a n (step.Op (o.Binary I32 Sub)) (cost_steps a) (cost_steps n)

pub size_steps : (a : Statement) → size a ≤ 2 * length (steps_of a)
size_steps skip = omega arith
size_steps (seq a b) = let all = length-append (steps_of a) (steps_of b) in omega (arith, all, size_steps a, size_steps b)
size_steps (assign x e) = let all = length-append (expression_steps e) (step.Op (o.LocalSet x) ∷ []) in omega (arith, all, cost_steps e)
size_steps (load x l offset a) = let all = length-append (expression_steps a) (step.Op (o.Load l (unaligned offset)) ∷ step.Op (o.LocalSet x) ∷ []) in omega (arith, all, cost_steps a)
size_steps (store st offset a e) = let all = two_steps a e (step.Op (o.Store st (unaligned offset))) (cost_steps a) (cost_steps e) in omega (arith, all)
size_steps (conditional e a b) =
    let one = length-append (expression_steps e) (step.If ∷ (steps_of a ++ (step.Else ∷ (steps_of b ++ step.End ∷ [])))) in
    let two = length-append (steps_of a) (step.Else ∷ (steps_of b ++ step.End ∷ [])) in
    let three = length-append (steps_of b) (step.End ∷ []) in
    omega (arith, one, two, three, cost_steps e, size_steps a, size_steps b)
size_steps (while e a) =
    let one = length-append (expression_steps e) (step.If ∷ step.Loop ∷ (steps_of a ++ (expression_steps e ++ step.Again ∷ step.End ∷ step.End ∷ []))) in
    let two = length-append (steps_of a) (expression_steps e ++ step.Again ∷ step.End ∷ step.End ∷ []) in
    let three = length-append (expression_steps e) (step.Again ∷ step.End ∷ step.End ∷ []) in
    omega (arith, one, two, three, cost_steps e, size_steps a)
size_steps (request e x) = let all = length-append (expression_steps e) (request_steps x) in omega (arith, all, cost_steps e)
size_steps (raise code) = omega arith
size_steps exit = omega arith
