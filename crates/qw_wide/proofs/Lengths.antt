-- How many steps the blocks of arithmetic and comparison have at most.
use Rattle.std.proofs.Common.{◌≡◌, ℕ, zero, suc, ◌+◌, ◌-◌, ◌*◌, ◌/◌, ◌^◌, ◌≤◌, ◌==◌, max, nat_lt, if◌then◌else◌, Bool, true, false, List, ◌++◌, length, length-append, refl, arith}
use Rattle.qw_scalar.specs.declared.comparison.Comparison.{Comparison}
use Rattle.qw_module.specs.declared.instruction.ValType.TheVariants.{I64}
use Rattle.qw_module.specs.declared.instruction.Sign.TheVariants.{Signed}
use Rattle.qw_module.specs.declared.instruction.Binary.{Binary}
use Rattle.qw_module.specs.declared.instruction.Binary.TheVariants.{Mul}
use Rattle.qw_module.specs.declared.instruction.Division.TheVariants.{Div}
use Rattle.qw_low.specs.declared.step.LowStep.{LowStep}
use Rattle.qw_low.proofs.Lengths.{added-most}
use Rattle.qw_low.specs.Steps.{steps_of}
use Rattle.qw_low.specs.Syntax.{Statement, seq, assign, binop, divop, local, relop}
use Rattle.qw_wide.specs.declared.arithmetic.Scaled.{Scaled}
use Rattle.qw_wide.specs.Inner.Blocks.{i64, capped, is_past, Products, Quotients, Sums, bring_block, brought_in, check_if, comparison_block, less_block, more_block, product_block, quotient_block, range_check, checked_product, sum_block}
use Rattle.qw_wide.specs.Relations.{relation_of}

check-long : (c : Bool) (limit x : ℕ) → length (steps_of (check_if c limit x)) ≤ 9
check-long true limit x = let same : length (steps_of (range_check limit x)) ≡ 9 = refl in omega (arith, same)
check-long false limit x = omega arith

pub bring-long : (c : Bool) (k n x : ℕ) → length (steps_of (bring_block c k n x)) ≤ 13
bring-long c zero n x = omega arith
bring-long c (suc k) n x =
    let check = check-long c ((10 ^ 18 - 1) / 10 ^ suc k) x in
    let all = length-append (steps_of (check_if c ((10 ^ 18 - 1) / 10 ^ suc k) x)) (steps_of (assign n (binop I64 Mul (local x) (i64 (10 ^ suc k))))) in
    omega (arith, check, all)

pub sum-long : (operator : Binary) (ca cb c : Bool) (ka kb n x y : ℕ) → length (steps_of (sum_block operator ca cb c ka kb n x y)) ≤ 60
sum-long operator ca cb c ka kb n x y =
    let first = bring-long ca ka n x in
    let second = bring-long cb kb (n + 1) y in
    let check = check-long c (10 ^ 18 - 1) n in
    let last : Statement = seq (assign n (binop I64 operator (local (brought_in ka n x)) (local (brought_in kb (n + 1) y)))) (check_if c (10 ^ 18 - 1) n) in
    let one = length-append (steps_of (bring_block ca ka n x)) (steps_of (seq (bring_block cb kb (n + 1) y) last)) in
    let two = length-append (steps_of (bring_block cb kb (n + 1) y)) (steps_of last) in
    let three = length-append (steps_of (assign n (binop I64 operator (local (brought_in ka n x)) (local (brought_in kb (n + 1) y))))) (steps_of (check_if c (10 ^ 18 - 1) n)) in
    omega (arith, first, second, check, one, two, three)

pub product-long : (c : Bool) (n x y : ℕ) → length (steps_of (product_block c n x y)) ≤ 60
product-long true n x y = let same : length (steps_of (checked_product n x y)) ≡ 36 = refl in omega (arith, same)
product-long false n x y = omega arith

pub quotient-long : (c : Bool) (k n x y : ℕ) → length (steps_of (quotient_block c k n x y)) ≤ 60
quotient-long c k n x y =
    let brought = bring-long c k n x in
    let all = length-append (steps_of (bring_block c k n x)) (steps_of (assign n (divop I64 (Div Signed) (local (brought_in k n x)) (local y)))) in
    omega (arith, brought, all)

less-long : (o : Comparison) (divides : Bool) (k n t x y : ℕ) → length (steps_of (less_block o divides k n t x y)) ≤ 24
less-long o true k n t x y = omega arith
less-long o false k n t x y = omega arith

more-long : (o : Comparison) (divides : Bool) (k n t x y : ℕ) → length (steps_of (more_block o divides k n t x y)) ≤ 24
more-long o true k n t x y = omega arith
more-long o false k n t x y = omega arith

pub comparison-long : (o : Comparison) (sa mx sb my n t x y : ℕ) → length (steps_of (comparison_block o sa mx sb my n t x y)) ≤ 24
comparison-long o sa mx sb my n t x y = by_tests (sa == sb) (nat_lt sa sb)
  where
    by_tests : (same below : Bool) → length (steps_of (if same then assign t (relop I64 (relation_of o) (local x) (local y)) else (if below then less_block o (is_past (mx * 10 ^ (sb - sa))) (sb - sa) n t x y
        else more_block o (is_past (my * 10 ^ (sa - sb))) (sa - sb) n t x y))) ≤ 24
    by_tests true below = omega arith
    by_tests false true = less-long o (is_past (mx * 10 ^ (sb - sa))) (sb - sa) n t x y
    by_tests false false = more-long o (is_past (my * 10 ^ (sa - sb))) (sa - sb) n t x y

-- what the functions tell of the code
pub sum-most : (operator : Binary) (left right : Scaled) (n : ℕ) (out : Scaled) (old new : List LowStep) → Sums operator left right n out old new → length new ≤ length old + 60
sum-most operator left right n out old new made =
    let ka : ℕ = max left.scale right.scale - left.scale in
    let kb : ℕ = max left.scale right.scale - right.scale in
    let ca : Bool = is_past (left.most * 10 ^ ka) in
    let cb : Bool = is_past (right.most * 10 ^ kb) in
    let c : Bool = is_past (capped (left.most * 10 ^ ka) + capped (right.most * 10 ^ kb)) in
    added-most 60 (sum_block operator ca cb c ka kb n left.local right.local) old new made.code_is (sum-long operator ca cb c ka kb n left.local right.local)

pub product-most : (left right : Scaled) (n : ℕ) (out : Scaled) (old new : List LowStep) → Products left right n out old new → length new ≤ length old + 60
product-most left right n out old new made =
    let c : Bool = is_past (left.most * right.most) in
    added-most 60 (product_block c n left.local right.local) old new made.code_is (product-long c n left.local right.local)

pub quotient-most : (left right : Scaled) (n : ℕ) (out : Scaled) (old new : List LowStep) → Quotients left right n out old new → length new ≤ length old + 60
quotient-most left right n out old new made =
    let c : Bool = is_past (left.most * 10 ^ right.scale) in
    added-most 60 (quotient_block c right.scale n left.local right.local) old new made.code_is (quotient-long c right.scale n left.local right.local)

pub brought-most : (c : Bool) (k n x : ℕ) (old new : List LowStep) → new ≡ old ++ steps_of (bring_block c k n x) → length new ≤ length old + 60
brought-most c k n x old new made = let most = bring-long c k n x in added-most 60 (bring_block c k n x) old new made (omega (arith, most))
