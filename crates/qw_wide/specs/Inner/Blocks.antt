-- Mirrors `src/arithmetic.rt` and `src/order.rt`: the statements whose steps its functions add. `x` and `y` are the operands' locals, and `n` the first
-- free one.
use Rattle.std.specs.Prelude.{◌≡◌, ℕ, zero, suc, ◌+◌, ◌-◌, ◌*◌, ◌/◌, ◌^◌, ◌==◌, min, max, nat_lt, Bool, if◌then◌else◌, List, ◌++◌}
use Rattle.qw_scalar.specs.declared.comparison.Comparison.{Comparison}
use Rattle.qw_module.specs.declared.instruction.ValType.TheVariants.{I64}
use Rattle.qw_module.specs.declared.instruction.Sign.TheVariants.{Signed, Unsigned}
use Rattle.qw_module.specs.declared.instruction.Const.TheVariants as const
use Rattle.qw_module.specs.declared.instruction.Binary.{Binary}
use Rattle.qw_module.specs.declared.instruction.Binary.TheVariants.{Add, Sub, Mul}
use Rattle.qw_module.specs.declared.instruction.Division.TheVariants.{Div, Rem}
use Rattle.qw_module.specs.declared.instruction.Relation.TheVariants.{Lt, Gt}
use Rattle.qw_low.specs.declared.step.LowStep.{LowStep}
use Rattle.qw_low.specs.Steps.{steps_of}
use Rattle.qw_wide.specs.declared.arithmetic.Scaled.{Scaled}
use Rattle.qw_wide.specs.Relations.{relation_of}
use Rattle.qw_low.specs.Syntax.{Expression, constant_of, local, binop, divop, is_zero, relop, Statement, skip, seq, assign, conditional, raise}

abbrev pub i64 : ℕ → Expression
i64 n = constant_of (const.I64 n)

-- a magnitude is past 18 digits, and the greatest that a checked number of a magnitude may have
abbrev pub is_past : ℕ → Bool
is_past m = nat_lt (10 ^ 18 - 1) m

abbrev pub capped : ℕ → ℕ
capped m = min m (10 ^ 18 - 1)

-- raises 2 where the magnitude of a number is past a limit
abbrev pub range_check : (limit x : ℕ) → Statement
range_check limit x = conditional (relop I64 (Gt Unsigned) (binop I64 Add (local x) (i64 limit)) (i64 (limit + limit))) (raise 2) skip

abbrev pub check_if : Bool → (limit x : ℕ) → Statement
check_if c limit x = if c then range_check limit x else skip

-- a number times 10^k, in `n`
abbrev pub raise_scale : (checked : Bool) → (k n x : ℕ) → Statement
raise_scale checked k n x = seq (check_if checked ((10 ^ 18 - 1) / 10 ^ k) x) (assign n (binop I64 Mul (local x) (i64 (10 ^ k))))

abbrev pub bring_block : (checked : Bool) → (k n x : ℕ) → Statement
bring_block checked zero n x = skip
bring_block checked (suc k) n x = raise_scale checked (suc k) n x

abbrev pub brought_in : (k n x : ℕ) → ℕ
brought_in zero n x = x
brought_in (suc k) n x = n

-- a sum or a difference of numbers that are brought by 10^ka and 10^kb first
abbrev pub sum_block : Binary → (ca cb c : Bool) → (ka kb n x y : ℕ) → Statement
sum_block operator ca cb c ka kb n x y =
    seq (bring_block ca ka n x) (seq (bring_block cb kb (n + 1) y)
    (seq (assign n (binop I64 operator (local (brought_in ka n x)) (local (brought_in kb (n + 1) y)))) (check_if c (10 ^ 18 - 1) n)))

abbrev pub opposite_block : (n x : ℕ) → Statement
opposite_block n x = assign n (binop I64 Sub (i64 0) (local x))

-- the magnitude of a number, in its place
abbrev pub magnitude_block : (n : ℕ) → Statement
magnitude_block n = conditional (relop I64 (Lt Signed) (local n) (i64 0)) (opposite_block n n) skip

-- A product is in range where the magnitude of its right factor is at most the quotient of the greatest magnitude and the left factor's.
abbrev pub tested_product : (n x y : ℕ) → Statement
tested_product n x y =
    seq (conditional (relop I64 (Gt Unsigned) (binop I64 Add (local y) (local n)) (binop I64 Add (local n) (local n))) (raise 2) skip)
    (assign n (binop I64 Mul (local x) (local y)))

abbrev pub checked_product : (n x y : ℕ) → Statement
checked_product n x y =
    conditional (is_zero I64 (local x)) (assign n (i64 0))
    (seq (assign n (divop I64 (Div Signed) (i64 (10 ^ 18 - 1)) (local x))) (seq (magnitude_block n) (tested_product n x y)))

abbrev pub product_block : (checked : Bool) → (n x y : ℕ) → Statement
product_block checked n x y = if checked then checked_product n x y else assign n (binop I64 Mul (local x) (local y))

-- a quotient: the divisor is tested first, and the dividend brought by 10^k
abbrev pub zero_check : (y : ℕ) → Statement
zero_check y = conditional (is_zero I64 (local y)) (raise 1) skip

abbrev pub quotient_block : (checked : Bool) → (k n x y : ℕ) → Statement
quotient_block checked k n x y =
    seq (zero_check y)
    (seq (bring_block checked k n x) (assign n (divop I64 (Div Signed) (local (brought_in k n x)) (local y))))

-- A number whose sign is that of a difference: of a * 10^k and b, or of a and b * 10^k. Where the one and the other's quotient are the same,
-- the remainder decides.
abbrev pub left_brought : (k n x y : ℕ) → Statement
left_brought k n x y =
    seq (assign n (binop I64 Sub (local x) (divop I64 (Div Signed) (local y) (i64 (10 ^ k)))))
    (conditional (is_zero I64 (local n)) (assign n (binop I64 Sub (i64 0) (divop I64 (Rem Signed) (local y) (i64 (10 ^ k))))) skip)

abbrev pub right_brought : (k n x y : ℕ) → Statement
right_brought k n x y =
    seq (assign n (binop I64 Sub (divop I64 (Div Signed) (local x) (i64 (10 ^ k))) (local y)))
    (conditional (is_zero I64 (local n)) (assign n (divop I64 (Rem Signed) (local x) (i64 (10 ^ k)))) skip)

-- whether a number is below, at or above 0, as a comparison asks
abbrev pub zero_test : Comparison → (n : ℕ) → Expression
zero_test operator n = relop I64 (relation_of operator) (local n) (i64 0)

-- a number times 10^k
abbrev pub times_power : (k x : ℕ) → Expression
times_power k x = binop I64 Mul (local x) (i64 (10 ^ k))

-- An operand whose scale is k below the other's is brought to it if its magnitude shows that it stays in range.
abbrev pub less_block : Comparison → (divides : Bool) → (k n t x y : ℕ) → Statement
less_block operator divides k n t x y =
    if divides
    then seq (left_brought k n x y) (assign t (zero_test operator n))
    else assign t (relop I64 (relation_of operator) (times_power k x) (local y))

abbrev pub more_block : Comparison → (divides : Bool) → (k n t x y : ℕ) → Statement
more_block operator divides k n t x y =
    if divides
    then seq (right_brought k n x y) (assign t (zero_test operator n))
    else assign t (relop I64 (relation_of operator) (local x) (times_power k y))

-- at one scale a relation of the two
abbrev pub comparison_block : Comparison → (sa mx sb my n t x y : ℕ) → Statement
comparison_block operator sa mx sb my n t x y =
    if sa == sb
    then assign t (relop I64 (relation_of operator) (local x) (local y))
    else (if nat_lt sa sb
    then less_block operator (is_past (mx * 10 ^ (sb - sa))) (sb - sa) n t x y
    else more_block operator (is_past (my * 10 ^ (sa - sb))) (sa - sb) n t x y)

-- what the steps of a sum or a difference leave of a code, and the number that they make
pub record Sums (operator : Binary) (left right : Scaled) (n : ℕ) (out : Scaled) (old new : List LowStep) : Type 0 where
  pub code_is : new ≡ old ++ steps_of
      (sum_block operator (is_past (left.most * 10 ^ (max left.scale right.scale - left.scale))) (is_past (right.most * 10 ^ (max left.scale right.scale - right.scale)))
      (is_past (capped (left.most * 10 ^ (max left.scale right.scale - left.scale)) + capped (right.most * 10 ^ (max left.scale right.scale - right.scale))))
      (max left.scale right.scale - left.scale) (max left.scale right.scale - right.scale) n left.local right.local)
  pub local_is : out.local ≡ n
  pub scale_is : out.scale ≡ max left.scale right.scale
  pub most_is : out.most ≡ capped (capped (left.most * 10 ^ (max left.scale right.scale - left.scale)) + capped (right.most * 10 ^ (max left.scale right.scale - right.scale)))

pub record Products (left right : Scaled) (n : ℕ) (out : Scaled) (old new : List LowStep) : Type 0 where
  pub code_is : new ≡ old ++ steps_of (product_block (is_past (left.most * right.most)) n left.local right.local)
  pub local_is : out.local ≡ n
  pub scale_is : out.scale ≡ left.scale + right.scale
  pub most_is : out.most ≡ capped (left.most * right.most)

pub record Quotients (left right : Scaled) (n : ℕ) (out : Scaled) (old new : List LowStep) : Type 0 where
  pub code_is : new ≡ old ++ steps_of (quotient_block (is_past (left.most * 10 ^ right.scale)) right.scale n left.local right.local)
  pub local_is : out.local ≡ n
  pub scale_is : out.scale ≡ left.scale
  pub most_is : out.most ≡ capped (left.most * 10 ^ right.scale)
