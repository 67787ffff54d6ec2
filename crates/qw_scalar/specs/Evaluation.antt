-- The value of an expression and the truth of a condition at a row, or the exception that they raise (ISO/IEC 9075:1992, 6.11, 6.12, 8.2,
-- 8.5, 8.12, 22.1). Operands go from left to right, and the first exception is the result.
use Rattle.std.specs.Prelude.{nat_le, unsigned_abs, ◌≡◌, ◌⊎◌, ℕ, ℤ, pos, neg_ℤ, int_div, int_rem, Bool, true, false, not, ◌&&◌, if◌then◌else◌, List, [], ◌∷◌, Option, Some, None, slice_get, Result, Ok, Err}
use Rattle.std.specs.Ordering.{int_cmp, is_eq, is_lt, is_le, is_gt, is_ge}
use Rattle.std.specs.declared.cmp.Ordering.{Ordering}
use Rattle.qw_types.specs.Arithmetic.{◌>>=◌, bring, difference_of, fits, order_of, product_of, quotient_of, sum_of}
use Rattle.qw_types.specs.Like.{fits_pattern}
use Rattle.qw_types.specs.TextOrder.{text_order}
use Rattle.qw_types.specs.Truth.{conjunction, disjunction, negation}
use Rattle.qw_types.specs.declared.code.Code.{Code}
use Rattle.qw_types.specs.declared.truth.Truth.{Truth}
use Rattle.qw_types.specs.declared.truth.Truth.TheVariants.{True, False, Unknown}
use Rattle.qw_types.specs.declared.kind.Kind.{Kind}
use Rattle.qw_types.specs.declared.value.Val.{Val}
use Rattle.qw_types.specs.declared.value.Val.TheVariants.{Null, Num, Date, Text}
use Rattle.qw_scalar.specs.declared.expression.Operator.{Operator}
use Rattle.qw_scalar.specs.declared.expression.Operator.TheVariants.{Add, Subtract, Multiply, Divide}
use Rattle.qw_scalar.specs.declared.expression.Field.{Field}
use Rattle.qw_scalar.specs.declared.expression.Field.TheVariants.{Year, Month, Day}
use Rattle.qw_scalar.specs.declared.expression.Predicate.{Predicate}
use Rattle.qw_scalar.specs.declared.expression.Predicate.TheVariants.{IsNull}
use Rattle.qw_scalar.specs.declared.comparison.Comparison.{Comparison}
use Rattle.qw_scalar.specs.declared.comparison.Comparison.TheVariants.{Equal, NotEqual, Less, LessOrEqual, Greater, GreaterOrEqual, Like, NotLike}
use Rattle.qw_scalar.specs.Expression.{Expression, Condition, Expressions, last, more, null, number, date, text, column, arithmetic, negative, extract, brought, choice, given, cell, comparison, predicate, both, either, negation_of, is, found, Operands, nil, operand, kind_scale, scale_of}

-- what an expression is evaluated in
pub record Environment : Type 0 where
  pub row : List Val

-- a row of FROM
abbrev pub at_row : List Val → Environment
at_row row = record { row = row }

-- whether a value has at most 18 digits, where it is a number
abbrev pub value_fits : Val → Bool
value_fits Null = true
value_fits (Num v) = fits v
value_fits (Date d) = true
value_fits (Text t) = true

-- the value of a column (6.4)
abbrev pub cell_of : Option Val → Val
cell_of None = Null
cell_of (Some value) = value

-- A number that is no larger than its column's are told to be (6.5), and what is no number. Null for a larger one only makes the meaning total.
abbrev pub bounded : ℕ → Val → Val
bounded most Null = Null
bounded most (Num v) = if nat_le (unsigned_abs v) most then Num v else Null
bounded most (Date d) = Date d
bounded most (Text t) = Text t

-- two numbers under an operator (6.12)
abbrev pub applied : Operator → ℤ → ℕ → ℤ → ℕ → Result ℤ Code
applied Add a sa b sb = sum_of a sa b sb
applied Subtract a sa b sb = difference_of a sa b sb
applied Multiply a sa b sb = product_of a b
applied Divide a sa b sb = quotient_of a sa b sb

abbrev pub as_number : Result ℤ Code → Result Val Code
as_number (Ok v) = Ok (Num v)
as_number (Err code) = Err code

-- An operator with a null operand gives null (6.12). Other operands than numbers are not typed; what is said of them here and below only
-- makes the meaning total.
abbrev pub combined : Operator → Val → ℕ → Val → ℕ → Result Val Code
combined operator (Num a) sa (Num b) sb = as_number (applied operator a sa b sb)
combined operator (Num a) sa Null sb = Ok Null
combined operator (Num a) sa (Date b) sb = Ok Null
combined operator (Num a) sa (Text b) sb = Ok Null
combined operator Null sa b sb = Ok Null
combined operator (Date a) sa b sb = Ok Null
combined operator (Text a) sa b sb = Ok Null

abbrev pub negated : Val → Val
negated Null = Null
negated (Num a) = Num (neg_ℤ a)
negated (Date d) = Null
negated (Text t) = Null

-- a field of a date (6.6)
abbrev pub field_of : Field → ℤ → ℤ
field_of Year d = int_div d (pos 10000)
field_of Month d = int_rem (int_div d (pos 100)) (pos 100)
field_of Day d = int_rem d (pos 100)

abbrev pub extracted : Field → Val → Val
extracted field Null = Null
extracted field (Num a) = Null
extracted field (Date d) = Num (field_of field d)
extracted field (Text t) = Null

-- a value at a scale; what is no number stays
abbrev pub raised : Val → ℕ → ℕ → Result Val Code
raised Null from to = Ok Null
raised (Num a) from to = as_number (bring a from to)
raised (Date d) from to = Ok (Date d)
raised (Text t) from to = Ok (Text t)

-- whether an order answers a comparison (8.2); LIKE is asked of texts alone, for which the answer is below
abbrev pub answers : Comparison → Ordering → Bool
answers Equal order = is_eq order
answers NotEqual order = not (is_eq order)
answers Less order = is_lt order
answers LessOrEqual order = is_le order
answers Greater order = is_gt order
answers GreaterOrEqual order = is_ge order
answers Like order = is_eq order
answers NotLike order = not (is_eq order)

-- whether two texts answer it: compared by octets, or the second as a pattern (8.5)
abbrev pub answers_texts : Comparison → List ℕ → List ℕ → Bool
answers_texts Equal a b = answers Equal (text_order a b)
answers_texts NotEqual a b = answers NotEqual (text_order a b)
answers_texts Less a b = answers Less (text_order a b)
answers_texts LessOrEqual a b = answers LessOrEqual (text_order a b)
answers_texts Greater a b = answers Greater (text_order a b)
answers_texts GreaterOrEqual a b = answers GreaterOrEqual (text_order a b)
answers_texts Like a b = fits_pattern b a
answers_texts NotLike a b = not (fits_pattern b a)

abbrev pub truth_if : Bool → Truth
truth_if true = True
truth_if false = False

-- a comparison with null is unknown, and so is LIKE; numbers compare by exact value, dates as they follow one another, texts by octets (8.2, 8.5)
abbrev pub compared : Comparison → Val → ℕ → Val → ℕ → Truth
compared op Null sa b sb = Unknown
compared op (Num a) sa Null sb = Unknown
compared op (Num a) sa (Num b) sb = truth_if (answers op (order_of a sa b sb))
compared op (Num a) sa (Date b) sb = Unknown
compared op (Num a) sa (Text b) sb = Unknown
compared op (Date a) sa Null sb = Unknown
compared op (Date a) sa (Num b) sb = Unknown
compared op (Date a) sa (Date b) sb = truth_if (answers op (int_cmp a b))
compared op (Date a) sa (Text b) sb = Unknown
compared op (Text a) sa Null sb = Unknown
compared op (Text a) sa (Num b) sb = Unknown
compared op (Text a) sa (Date b) sb = Unknown
compared op (Text a) sa (Text b) sb = truth_if (answers_texts op a b)

abbrev pub tested_null : Val → Truth
tested_null Null = True
tested_null (Num a) = False
tested_null (Date d) = False
tested_null (Text t) = False

-- a predicate of a value
abbrev pub tested : Predicate → Val → Truth
tested IsNull x = tested_null x

-- whether two truth values are the same
abbrev pub same_truth : Truth → Truth → Bool
same_truth True True = true
same_truth True False = false
same_truth True Unknown = false
same_truth False True = false
same_truth False False = true
same_truth False Unknown = false
same_truth Unknown True = false
same_truth Unknown False = false
same_truth Unknown Unknown = true

-- AND skips its right side after false, OR after true; the result is that of 8.12
abbrev pub and_then : Truth → Result Truth Code → Result Truth Code
and_then False right = Ok False
and_then True right = right >>= (λ u. Ok (conjunction True u))
and_then Unknown right = right >>= (λ u. Ok (conjunction Unknown u))

abbrev pub or_else : Truth → Result Truth Code → Result Truth Code
or_else True right = Ok True
or_else False right = right >>= (λ u. Ok (disjunction False u))
or_else Unknown right = right >>= (λ u. Ok (disjunction Unknown u))

-- only the chosen result is evaluated (6.9)
abbrev pub chosen : {A : Type 0} → Truth → A → A → A
chosen True first second = first
chosen False first second = second
chosen Unknown first second = second

-- ---- what the rows of a table subquery answer (8.4, 8.8)
abbrev pub holds_true : Truth → Bool
holds_true True = true
holds_true False = false
holds_true Unknown = false

-- a value and its scale
pub record Scaled : Type 0 where
  pub value : Val
  pub scale : ℕ

-- whether it equals a cell of this kind (8.2)
abbrev pub equal_to : Scaled → Kind → Val → Truth
equal_to x k v = compared Equal x.value x.scale v (kind_scale k)

-- the first cells of a row equal the keys, one by one: a correlated subquery has the row where its equalities are true (7.6, 7.11)
abbrev pub meets : List Scaled → List Kind → List Val → Bool
meets [] kinds row = true
meets (x ∷ xs) [] row = false
meets (x ∷ xs) (k ∷ kinds) [] = false
meets (x ∷ xs) (k ∷ kinds) (v ∷ row) = holds_true (equal_to x k v) && meets xs kinds row

-- whether x equals the cell behind the keys'; unknown where there is none only makes the meaning total
abbrev pub equal_behind : Scaled → List Scaled → List Kind → List Val → Truth
equal_behind x [] [] row = Unknown
equal_behind x [] (k ∷ kinds) [] = Unknown
equal_behind x [] (k ∷ kinds) (v ∷ row) = equal_to x k v
equal_behind x (y ∷ ys) [] row = Unknown
equal_behind x (y ∷ ys) (k ∷ kinds) [] = Unknown
equal_behind x (y ∷ ys) (k ∷ kinds) (v ∷ row) = equal_behind x ys kinds row

-- what one row answers: EXISTS is true of any, IN asks whether its value is equal (8.4, 8.8)
abbrev pub one_asked : (asked keys : List Scaled) → List Kind → List Val → Truth
one_asked [] keys kinds row = True
one_asked (x ∷ others) keys kinds row = equal_behind x keys kinds row

-- What the rows answer whose first cells equal the keys: true where one of them does, else unknown where one is unknown, else false, so false over none
-- (8.4, 8.8)
abbrev pub answered : (asked keys : List Scaled) → List Kind → List (List Val) → Truth
answered asked keys kinds [] = False
answered asked keys kinds (row ∷ rows) =
    if meets keys kinds row then disjunction (one_asked asked keys kinds row) (answered asked keys kinds rows) else answered asked keys kinds rows

abbrev mutual
  pub value_of : Expression → Environment → Result Val Code
  value_of null env = Ok Null
  value_of (number v s) env = Ok (Num v)
  value_of (date d) env = Ok (Date d)
  value_of (text t) env = Ok (Text t)
  value_of (column i s) env = Ok (cell_of (slice_get env.row i))
  value_of (arithmetic operator a b) env =
      value_of a env >>= (λ x. value_of b env >>= (λ y. combined operator x (scale_of a) y (scale_of b)))
  value_of (negative a) env = value_of a env >>= (λ x. Ok (negated x))
  value_of (extract field a) env = value_of a env >>= (λ x. Ok (extracted field x))
  value_of (brought a s) env = value_of a env >>= (λ x. raised x (scale_of a) s)
  value_of (choice c a b) env = truth_of c env >>= (λ t. chosen t (value_of a env) (value_of b env))
  value_of (given w k most v) env = Ok v
  value_of (cell i ty most) env = Ok (bounded most (cell_of (slice_get env.row i)))

  pub truth_of : Condition → Environment → Result Truth Code
  truth_of (comparison op a b) env =
      value_of a env >>= (λ x. value_of b env >>= (λ y. Ok (compared op x (scale_of a) y (scale_of b))))
  truth_of (predicate p a) env = value_of a env >>= (λ x. Ok (tested p x))
  truth_of (both c d) env = truth_of c env >>= (λ t. and_then t (truth_of d env))
  truth_of (either c d) env = truth_of c env >>= (λ t. or_else t (truth_of d env))
  truth_of (negation_of c) env = truth_of c env >>= (λ t. Ok (negation t))
  truth_of (is c u) env = truth_of c env >>= (λ t. Ok (truth_if (same_truth t u)))
  truth_of (found n asked keys kinds rows) env =
      values_of asked env >>= (λ xs. values_of keys env >>= (λ ys. Ok (answered xs ys kinds rows)))

  pub values_of : Operands → Environment → Result (List Scaled) Code
  values_of nil env = Ok []
  values_of (operand e es) env = value_of e env >>= (λ x. values_of es env >>= (λ xs. Ok (record { value = x; scale = scale_of e } ∷ xs)))

-- one of some expressions is null
abbrev pub HasNull : Environment → Expressions → Type 0
HasNull env (last v) = value_of v env ≡ Ok Null
HasNull env (more v vs) = (value_of v env ≡ Ok Null) ⊎ HasNull env vs
