-- Which expressions and conditions can raise an exception at some row (ISO/IEC 9075:1992, 6.12, 22.1), as told from the greatest magnitudes
-- that their numbers may have, whatever the rows. It is told of the text as it is typed, not of what it could be folded to, so that a reader
-- can follow the rules on paper: `ID / (2 - 1)` can raise.
use Rattle.std.specs.Prelude.{ℕ, ◌+◌, ◌-◌, ◌*◌, ◌^◌, ◌==◌, max, min, nat_lt, unsigned_abs, Bool, false, not, ◌||◌}
use Rattle.qw_types.specs.declared.value.Ty.{Ty}
use Rattle.qw_types.specs.declared.value.Ty.TheVariants as type
use Rattle.qw_scalar.specs.declared.expression.Operator.{Operator}
use Rattle.qw_scalar.specs.declared.expression.Operator.TheVariants.{Add, Subtract, Multiply, Divide}
use Rattle.qw_scalar.specs.Expression.{Expression, Condition, null, number, date, text, column, arithmetic, negative, extract, brought, choice, given, cell, comparison, predicate, both, either, negation_of, is, found, Operands, nil, operand, scale_of}

-- the greatest number of 18 digits
abbrev pub greatest : ℕ
greatest = 10 ^ 18 - 1

-- a magnitude that is no number's of 18 digits
abbrev pub is_past : ℕ → Bool
is_past raw = nat_lt greatest raw

-- the magnitude of a number that is known to fit
abbrev pub capped : ℕ → ℕ
capped raw = min raw greatest

-- the greatest magnitude of a type's numbers, 0 where its values are none (4.4)
abbrev pub type_magnitude : Ty → ℕ
type_magnitude type.Integer = 2 ^ 31
type_magnitude (type.Decimal precision scale) = 10 ^ precision - 1
type_magnitude type.Date = 0
type_magnitude (type.Varchar limit) = 0

-- of a number that is brought to a scale, before it is known to fit
abbrev pub raw_bring : ℕ → (from to : ℕ) → ℕ
raw_bring m from to = m * 10 ^ (to - from)

-- of a sum or a difference of numbers of magnitudes m and n at scales s and t, both brought to the larger scale (6.12)
abbrev pub raw_sum : (m s n t : ℕ) → ℕ
raw_sum m s n t = capped (raw_bring m s (max s t)) + capped (raw_bring n t (max s t))

-- of a result; a quotient is no larger than its dividend, which is brought to the sum of the scales
abbrev pub raw_result : Operator → (m s n t : ℕ) → ℕ
raw_result Add m s n t = raw_sum m s n t
raw_result Subtract m s n t = raw_sum m s n t
raw_result Multiply m s n t = m * n
raw_result Divide m s n t = raw_bring m s (s + t)

-- the greatest magnitude of an expression's numbers, 0 where its values are none
abbrev pub magnitude : Expression → ℕ
magnitude null = 0
magnitude (number v s) = capped (unsigned_abs v)
magnitude (date d) = 0
magnitude (text t) = 0
magnitude (column i ty) = type_magnitude ty
magnitude (arithmetic operator a b) = capped (raw_result operator (magnitude a) (scale_of a) (magnitude b) (scale_of b))
magnitude (negative a) = magnitude a
magnitude (extract field a) = 9999
magnitude (brought a s) = capped (raw_bring (magnitude a) (scale_of a) s)
magnitude (choice c a b) = max (magnitude a) (magnitude b)
magnitude (given w k most v) = capped most
magnitude (cell i ty most) = capped most

-- a divisor that is a literal other than 0; in `- 2` the sign is an operator over the literal (6.12), so it is none
abbrev pub is_safe_divisor : Expression → Bool
is_safe_divisor null = false
is_safe_divisor (number v s) = not (unsigned_abs v == 0)
is_safe_divisor (date d) = false
is_safe_divisor (text t) = false
is_safe_divisor (column i ty) = false
is_safe_divisor (arithmetic operator a b) = false
is_safe_divisor (negative a) = false
is_safe_divisor (extract field a) = false
is_safe_divisor (brought a s) = false
is_safe_divisor (choice c a b) = false
is_safe_divisor (given w k most v) = false
is_safe_divisor (cell i ty most) = false

-- a sum or a difference: either operand where it is brought, or the result
abbrev pub sum_raises : (m s n t : ℕ) → Bool
sum_raises m s n t = is_past (raw_bring m s (max s t)) || (is_past (raw_bring n t (max s t)) || is_past (raw_sum m s n t))

-- whether an operator can raise; of a quotient it also matters whether the divisor is safe
abbrev pub operator_raises : Operator → (is_safe : Bool) → (m s n t : ℕ) → Bool
operator_raises Add is_safe m s n t = sum_raises m s n t
operator_raises Subtract is_safe m s n t = sum_raises m s n t
operator_raises Multiply is_safe m s n t = is_past (m * n)
operator_raises Divide is_safe m s n t = not is_safe || is_past (raw_bring m s (s + t))

abbrev mutual
  pub can_raise : Expression → Bool
  can_raise null = false
  can_raise (number v s) = false
  can_raise (date d) = false
  can_raise (text t) = false
  can_raise (column i ty) = false
  can_raise (arithmetic operator a b) =
      can_raise a || (can_raise b || operator_raises operator (is_safe_divisor b) (magnitude a) (scale_of a) (magnitude b) (scale_of b))
  can_raise (negative a) = can_raise a
  can_raise (extract field a) = can_raise a
  can_raise (brought a s) = can_raise a || is_past (raw_bring (magnitude a) (scale_of a) s)
  can_raise (choice c a b) = condition_can_raise c || (can_raise a || can_raise b)
  can_raise (given w k most v) = false
  can_raise (cell i ty most) = false

  -- where an expression in it can
  pub condition_can_raise : Condition → Bool
  condition_can_raise (comparison op a b) = can_raise a || can_raise b
  condition_can_raise (predicate p a) = can_raise a
  condition_can_raise (both c d) = condition_can_raise c || condition_can_raise d
  condition_can_raise (either c d) = condition_can_raise c || condition_can_raise d
  condition_can_raise (negation_of c) = condition_can_raise c
  condition_can_raise (is c t) = condition_can_raise c
  condition_can_raise (found n asked keys kinds rows) = operands_can_raise asked || operands_can_raise keys

  pub operands_can_raise : Operands → Bool
  operands_can_raise nil = false
  operands_can_raise (operand e es) = can_raise e || operands_can_raise es
