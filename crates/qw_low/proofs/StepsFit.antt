-- The offsets of a statement's accesses have 32 bits, where those of its steps have.
use Rattle.std.proofs.Common.{◌≡◌, ℕ, zero, suc, ◌+◌, ◌<◌, ◌≤◌, ◌==◌, if◌then◌else◌, Bool, true, false, List, [], ◌∷◌, ◌++◌, length, take, get_or, sym, subst, arith}
use Rattle.std.specs.List.{AllByRecursion}
use Rattle.qw_module.specs.Syntax.{Code, done, op}
use Rattle.qw_module.specs.declared.instruction.Op.TheVariants as o
use Rattle.qw_module.specs.Offsets.{FitOffsets}
use Rattle.qw_low.specs.declared.step.LowStep.{LowStep}
use Rattle.qw_low.specs.declared.step.LowStep.TheVariants as step
use Rattle.qw_low.specs.Syntax.{Expression, constant_of, local, unop, binop, divop, is_zero, relop, cvtop, advance, retreat, Statement, skip, seq, assign, load, store, conditional, while, request, raise, exit}
use Rattle.qw_low.specs.Translation.{expression_code, setting, statement_code}
use Rattle.qw_low.specs.Steps.{FitsStep, expression_steps, steps_of}

front : {A : Type 0} (P : A → Type 0) (xs ys : List A) → AllByRecursion P (xs ++ ys) → AllByRecursion P xs
front P [] ys all = tt
front P (x ∷ xs) ys all = (all.0, front P xs ys all.1)

back : {A : Type 0} (P : A → Type 0) (xs ys : List A) → AllByRecursion P (xs ++ ys) → AllByRecursion P ys
back P [] ys all = all
back P (x ∷ xs) ys all = back P xs ys all.1

expression_fits : (e : Expression) (k : Code) → FitOffsets k → FitOffsets (expression_code e k)
expression_fits (constant_of c) k h = (tt, h)
expression_fits (local x) k h = (tt, h)
expression_fits (unop t u e) k h = expression_fits e _ (tt, h)
expression_fits (binop t b l r) k h = expression_fits l _ (expression_fits r _ (tt, h))
expression_fits (divop t d l r) k h = expression_fits l _ (expression_fits r _ (tt, h))
expression_fits (is_zero t e) k h = expression_fits e _ (tt, h)
expression_fits (relop t r left right) k h = expression_fits left _ (expression_fits right _ (tt, h))
expression_fits (cvtop c e) k h = expression_fits e _ (tt, h)
expression_fits (advance a n) k h = expression_fits a _ (expression_fits n _ (tt, h))
expression_fits (retreat a n) k h = expression_fits a _ (expression_fits n _ (tt, h))

setting_fits : (x : ℕ) (k : Code) → FitOffsets k → FitOffsets (setting x k)
setting_fits x (op (o.LocalGet y) k) h = at (x == y)
  where
    at : (same : Bool) → FitOffsets (if same then op (o.LocalTee x) k else op (o.LocalSet x) (op (o.LocalGet y) k))
    at true = h
    at false = (tt, h)
setting_fits x _ h = (tt, h)

statement_fits : (s : Statement) (k : Code) → AllByRecursion FitsStep (steps_of s) → FitOffsets k → FitOffsets (statement_code s k)
statement_fits skip k all h = h
statement_fits (seq a b) k all h =
    statement_fits a _ (front FitsStep (steps_of a) (steps_of b) all) (statement_fits b k (back FitsStep (steps_of a) (steps_of b) all) h)
statement_fits (assign x e) k all h = expression_fits e _ (setting_fits x k h)
statement_fits (load x l offset a) k all h = expression_fits a _ ((back FitsStep (expression_steps a) _ all).0, setting_fits x k h)
statement_fits (store st offset a e) k all h = expression_fits a _ (expression_fits e _ ((back FitsStep (expression_steps e) _ (back FitsStep (expression_steps a) _ all)).0, h))
statement_fits (conditional e a b) k all h =
    let choice = (back FitsStep (expression_steps e) (step.If ∷ (steps_of a ++ (step.Else ∷ (steps_of b ++ step.End ∷ [])))) all).1 in
    let other = (back FitsStep (steps_of a) (step.Else ∷ (steps_of b ++ step.End ∷ [])) choice).1 in
    expression_fits e _ (statement_fits a done (front FitsStep (steps_of a) (step.Else ∷ (steps_of b ++ step.End ∷ [])) choice) tt, statement_fits b done (front FitsStep (steps_of b) (step.End ∷ []) other) tt, h)
statement_fits (while e a) k all h =
    let turn = (back FitsStep (expression_steps e) (step.If ∷ step.Loop ∷ (steps_of a ++ (expression_steps e ++ step.Again ∷ step.End ∷ step.End ∷ []))) all).1.1 in
    expression_fits e _ ((statement_fits a _ (front FitsStep (steps_of a) (expression_steps e ++ step.Again ∷ step.End ∷ step.End ∷ []) turn) (expression_fits e _ tt), tt), h)
statement_fits (request e x) k all h = expression_fits e _ (tt, (tt, (tt, ((tt, tt), (tt, (tt, (tt, setting_fits x k h)))))))
statement_fits (raise code) k all h = (tt, h)
statement_fits exit k all h = h

-- in a loop over steps
pub fits-more : (code : List LowStep) (n : ℕ) (d : LowStep) → n < length code → FitsStep (get_or code n d) → AllByRecursion FitsStep (take n code) → AllByRecursion FitsStep (take (n + 1) code)
fits-more code n d less fits all = let more : n + 1 ≡ suc n = omega arith in subst (λ (k : ℕ). AllByRecursion FitsStep (take k code)) (more_is more) (further code n d less fits all)
  where
    more_is : n + 1 ≡ suc n → suc n ≡ n + 1
    more_is same = omega arith

    further : (code : List LowStep) (n : ℕ) (d : LowStep) → n < length code → FitsStep (get_or code n d) → AllByRecursion FitsStep (take n code) → AllByRecursion FitsStep (take (suc n) code)
    further [] n d less fits all = absurd (omega arith)
    further (x ∷ code) zero d less fits all = (fits, tt)
    further (x ∷ code) (suc n) d less fits all = (all.0, further code n d (omega (arith, less)) fits all.1)

pub fits-all : (code : List LowStep) (n : ℕ) → length code ≤ n → AllByRecursion FitsStep (take n code) → AllByRecursion FitsStep code
fits-all [] n past all = tt
fits-all (x ∷ code) zero past all = absurd (omega arith)
fits-all (x ∷ code) (suc n) past all = (all.0, fits-all code n (omega (arith, past)) all.1)

pub code_fits : (s : Statement) (steps : List LowStep) (code : Code) → steps ≡ steps_of s → AllByRecursion FitsStep steps → code ≡ statement_code s done → FitOffsets code
code_fits s steps code is all code_is = subst FitOffsets (sym code_is) (statement_fits s done (subst (AllByRecursion FitsStep) is all) tt)
