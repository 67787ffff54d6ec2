-- Low as a flat list of steps, in the order of its code: what the code of this crate builds.
use Rattle.std.specs.Prelude.{ℕ, List, [], ◌∷◌, ◌++◌}
use Rattle.qw_module.specs.declared.instruction.ValType.TheVariants.{I32}
use Rattle.qw_module.specs.declared.instruction.Const.TheVariants as const
use Rattle.qw_module.specs.declared.instruction.Binary.TheVariants.{Add, Sub, Mul}
use Rattle.qw_module.specs.declared.instruction.Relation.TheVariants.{Eq}
use Rattle.qw_module.specs.declared.instruction.Op.TheVariants as o
use Rattle.qw_module.specs.Execution.{refusal}
use Rattle.qw_linear.specs.Memory.{page}
use Rattle.qw_low.specs.declared.step.LowStep.{LowStep}
use Rattle.qw_low.specs.declared.step.LowStep.TheVariants as step
use Rattle.qw_module.specs.Offsets.{FitsOffset}
use Rattle.qw_low.specs.Syntax.{Expression, constant_of, local, unop, binop, divop, is_zero, relop, cvtop, advance, retreat, Statement, skip, seq, assign, load, store, conditional, while, request, raise, exit}
use Rattle.qw_low.specs.Translation.{unaligned}

abbrev pub expression_steps : Expression → List LowStep
expression_steps (constant_of c) = step.Op (o.Const c) ∷ []
expression_steps (local x) = step.Op (o.LocalGet x) ∷ []
expression_steps (unop t u e) = expression_steps e ++ step.Op (o.Unary t u) ∷ []
expression_steps (binop t b l r) = expression_steps l ++ (expression_steps r ++ step.Op (o.Binary t b) ∷ [])
expression_steps (divop t d l r) = expression_steps l ++ (expression_steps r ++ step.Op (o.Division t d) ∷ [])
expression_steps (is_zero t e) = expression_steps e ++ step.Op (o.Eqz t) ∷ []
expression_steps (relop t r left right) = expression_steps left ++ (expression_steps right ++ step.Op (o.Relation t r) ∷ [])
expression_steps (cvtop c e) = expression_steps e ++ step.Op (o.Convert c) ∷ []
expression_steps (advance a n) = expression_steps a ++ (expression_steps n ++ step.Op (o.Binary I32 Add) ∷ [])
expression_steps (retreat a n) = expression_steps a ++ (expression_steps n ++ step.Op (o.Binary I32 Sub) ∷ [])

-- what follows the number of pages of a request
abbrev pub request_steps : ℕ → List LowStep
request_steps x =
    step.Ask ∷ step.Op (o.LocalTee x) ∷ step.Op (o.Const (const.I32 refusal)) ∷ step.Op (o.Relation I32 Eq)
    ∷ step.If ∷ step.Raise 3 ∷ step.End
    ∷ step.Op (o.LocalGet x) ∷ step.Op (o.Const (const.I32 page)) ∷ step.Op (o.Binary I32 Mul) ∷ step.Op (o.LocalSet x) ∷ []

abbrev pub steps_of : Statement → List LowStep
steps_of skip = []
steps_of (seq a b) = steps_of a ++ steps_of b
steps_of (assign x e) = expression_steps e ++ step.Op (o.LocalSet x) ∷ []
steps_of (load x l offset a) = expression_steps a ++ step.Op (o.Load l (unaligned offset)) ∷ step.Op (o.LocalSet x) ∷ []
steps_of (store st offset a e) = expression_steps a ++ (expression_steps e ++ step.Op (o.Store st (unaligned offset)) ∷ [])
steps_of (conditional e a b) = expression_steps e ++ (step.If ∷ (steps_of a ++ (step.Else ∷ (steps_of b ++ step.End ∷ []))))
steps_of (while e a) =
    expression_steps e ++ (step.If ∷ step.Loop ∷ (steps_of a ++ (expression_steps e ++ step.Again ∷ step.End ∷ step.End ∷ [])))
steps_of (request e x) = expression_steps e ++ request_steps x
steps_of (raise code) = step.Raise code ∷ []
steps_of exit = step.Exit ∷ []

-- the offset of an access has 32 bits
abbrev pub FitsStep : LowStep → Type 0
FitsStep (step.Op operator) = FitsOffset operator
FitsStep _ = Unit {0}
