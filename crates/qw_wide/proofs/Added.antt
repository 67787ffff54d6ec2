-- What the steps that were added are blocks of.
use Rattle.std.proofs.Common.{◌≡◌, ℕ, ◌+◌, ◌-◌, ◌*◌, ◌^◌, ◌<◌, ◌≤◌, ℤ, List, ◌++◌, Result, arith}
use Rattle.qw_types.specs.declared.code.Code.{Code}
use Rattle.qw_types.specs.Arithmetic.{bring, sum_of, difference_of, product_of, quotient_of}
use Rattle.qw_module.specs.declared.instruction.Binary.TheVariants.{Add, Sub}
use Rattle.qw_low.specs.declared.step.LowStep.{LowStep}
use Rattle.qw_low.specs.Steps.{steps_of}
use Rattle.qw_low.specs.Syntax.{Statement}
use Rattle.qw_wide.specs.declared.arithmetic.Scaled.{Scaled}
use Rattle.qw_wide.specs.Numbers.{Operates, Converts}
use Rattle.qw_wide.specs.Inner.Blocks.{is_past, capped, bring_block, brought_in, Sums, Products, Quotients}
use Rattle.qw_wide.proofs.Operations.{bring_converts, add_operates, sub_operates, product_operates, quotient_operates}

-- a block that operates was added
abbrev pub Added : (ℤ → ℤ → Result ℤ Code) → (left right : Scaled) → (n : ℕ) → (out : Scaled) → (old new : List LowStep) → Type 0
Added operation left right n out old new = (a : Statement) × (new ≡ old ++ steps_of a) × Operates operation left.local left.most right.local right.most n out.local out.most a

placed : (operation : ℤ → ℤ → Result ℤ Code) (left right : Scaled) (n : ℕ) (out : Scaled) (old new : List LowStep) (a : Statement) (most : ℕ) → new ≡ old ++ steps_of a → out.local ≡ n → out.most ≡ most →
    Operates operation left.local left.most right.local right.most n n most a → Added operation left right n out old new
placed operation left right n out old new a most code local_is most_is operates = (a, code, rw (local_is, most_is) operates)

pub sum_added : (left right : Scaled) (n : ℕ) (out : Scaled) (old new : List LowStep) → left.scale ≤ 18 → right.scale ≤ 18 → left.local < n → right.local < n → Sums Add left right n out old new →
    Added (λ v w. sum_of v left.scale w right.scale) left right n out old new
sum_added left right n out old new la lb bx by sums = placed (λ v w. sum_of v left.scale w right.scale) left right n out old new _ _ sums.code_is sums.local_is sums.most_is (add_operates left.scale right.scale left.local left.most right.local right.most n la lb bx by)

pub difference_added : (left right : Scaled) (n : ℕ) (out : Scaled) (old new : List LowStep) → left.scale ≤ 18 → right.scale ≤ 18 → left.local < n → right.local < n → Sums Sub left right n out old new →
    Added (λ v w. difference_of v left.scale w right.scale) left right n out old new
difference_added left right n out old new la lb bx by sums = placed (λ v w. difference_of v left.scale w right.scale) left right n out old new _ _ sums.code_is sums.local_is sums.most_is (sub_operates left.scale right.scale left.local left.most right.local right.most n la lb bx by)

pub product_added : (left right : Scaled) (n : ℕ) (out : Scaled) (old new : List LowStep) → left.local < n → right.local < n → Products left right n out old new → Added product_of left right n out old new
product_added left right n out old new bx by is = placed product_of left right n out old new _ _ is.code_is is.local_is is.most_is (product_operates left.local left.most right.local right.most n bx by)

pub quotient_added : (left right : Scaled) (n : ℕ) (out : Scaled) (old new : List LowStep) → right.scale ≤ 18 → left.local < n → right.local < n → Quotients left right n out old new →
    Added (λ v w. quotient_of v left.scale w right.scale) left right n out old new
quotient_added left right n out old new low bx by is = placed (λ v w. quotient_of v left.scale w right.scale) left right n out old new _ _ is.code_is is.local_is is.most_is (quotient_operates left.scale right.scale left.local left.most right.local right.most n low bx by)

pub bring_added : (operand : Scaled) (to n : ℕ) (out : Scaled) (old new : List LowStep) → to ≤ 18 → operand.local < n →
    (new ≡ old ++ steps_of (bring_block (is_past (operand.most * 10 ^ (to - operand.scale))) (to - operand.scale) n operand.local))
    × (out ≡ record { local = brought_in (to - operand.scale) n operand.local; scale = operand.scale + (to - operand.scale); most = capped (operand.most * 10 ^ (to - operand.scale)) }) →
    (a : Statement) × (new ≡ old ++ steps_of a) × Converts (λ v. bring v operand.scale to) operand.local operand.most n out.local out.most a
bring_added operand to n out old new low below h = (bring_block (is_past (operand.most * 10 ^ (to - operand.scale))) (to - operand.scale) n operand.local, h.0, rw (h.1) (bring_converts (to - operand.scale) operand.local operand.most n (omega (arith, low)) below))
