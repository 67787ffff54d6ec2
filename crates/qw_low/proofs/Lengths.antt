-- How many steps a block has after steps were added to it.
use Rattle.std.proofs.Common.{◌≡◌, ℕ, ◌+◌, ◌≤◌, List, ◌++◌, length, length-append, Result, Ok, Err, IfOk, OnOk, ap, arith}
use Rattle.qw_low.specs.declared.step.LowStep.{LowStep}
use Rattle.qw_low.specs.Steps.{steps_of}
use Rattle.qw_low.specs.Syntax.{Statement}

-- a statement's steps, at most so many
pub added-most : (k : ℕ) (a : Statement) (old new : List LowStep) → new ≡ old ++ steps_of a → length (steps_of a) ≤ k → length new ≤ length old + k
added-most k a old new added most =
    let all : length new ≡ length (old ++ steps_of a) = ap (λ (l : List LowStep). length l) added in
    omega (arith, all, length-append old (steps_of a), most)

pub made-most : {A E : Type 0} (P : A → Type 0) (Q : Type 0) (r : Result A E) → ((v : A) → P v → Q) → IfOk r P → OnOk r Q
made-most P Q (Ok v) more h = more v h
made-most P Q (Err e) more h = tt
