-- Typed expressions and conditions (ISO/IEC 9075:1992, 6.11 and 8.12), apart from any tree of the code: no addresses, and nothing that
-- abbreviates. What an abbreviation stands for is below.
use Rattle.std.specs.Prelude.{ℕ, ℤ, ◌+◌, max, List}
use Rattle.qw_types.specs.declared.kind.Kind.{Kind}
use Rattle.qw_types.specs.declared.kind.Kind.TheVariants as kind
use Rattle.qw_types.specs.declared.value.Val.{Val}
use Rattle.qw_types.specs.declared.value.Ty.{Ty}
use Rattle.qw_types.specs.Value.{type_scale}
use Rattle.qw_types.specs.declared.truth.Truth.{Truth}
use Rattle.qw_scalar.specs.declared.expression.Operator.{Operator}
use Rattle.qw_scalar.specs.declared.expression.Operator.TheVariants.{Add, Subtract, Multiply, Divide}
use Rattle.qw_scalar.specs.declared.expression.Field.{Field}
use Rattle.qw_scalar.specs.declared.expression.Function.{Function}
use Rattle.qw_scalar.specs.declared.expression.Function.TheVariants.{Coalesce, NullIf}
use Rattle.qw_scalar.specs.declared.expression.Predicate.{Predicate}
use Rattle.qw_scalar.specs.declared.expression.Predicate.TheVariants.{IsNull}
use Rattle.qw_scalar.specs.declared.comparison.Comparison.{Comparison}
use Rattle.qw_scalar.specs.declared.comparison.Comparison.TheVariants.{Equal, LessOrEqual, GreaterOrEqual}

-- where a value that is filled in comes from: a dynamic parameter (6.2) or a scalar subquery (7.11), by its number from 0 among those of the query
pub data Whence : Type 0 where
  parameter : ℕ → Whence
  single : ℕ → Whence

mutual
  pub data Expression : Type 0 where
    -- the null value
    null : Expression
    -- a number and its scale
    number : ℤ → ℕ → Expression
    -- a date, as year * 10000 + month * 100 + day
    date : ℤ → Expression
    -- a text, as its octets
    text : List ℕ → Expression
    -- a column of the row, counted from 0, and its type
    column : ℕ → Ty → Expression
    arithmetic : Operator → Expression → Expression → Expression
    negative : Expression → Expression
    extract : Field → Expression → Expression
    -- a number brought to a scale
    brought : Expression → ℕ → Expression
    -- the first where the condition is true, else the second
    choice : Condition → Expression → Expression → Expression
    -- a value that is filled in before the expression is evaluated, the same at each row (6.2, 7.11): where it comes from, its kind, the magnitude
    -- that a number of it has at most, and the value, which is null as long as nothing is filled in
    given : Whence → Kind → (most : ℕ) → Val → Expression
    -- a column of the row, counted from 0, its type, and the magnitude that its numbers have at most, as MIN and MAX have their argument's (6.5)
    cell : ℕ → Ty → (most : ℕ) → Expression

  pub data Condition : Type 0 where
    comparison : Comparison → Expression → Expression → Condition
    -- a predicate of one value
    predicate : Predicate → Expression → Condition
    both : Condition → Condition → Condition
    either : Condition → Condition → Condition
    negation_of : Condition → Condition
    is : Condition → Truth → Condition
    -- EXISTS (8.8) where nothing is asked, else IN (8.4), over those rows of a table subquery whose first cells equal the keys: the subquery's
    -- number from 0, what is asked, the keys, the kinds of a row's cells, and the rows, none as long as nothing is filled in. What is asked is
    -- compared with the cell behind the keys'.
    found : ℕ → (asked keys : Operands) → List Kind → List (List Val) → Condition

  -- a list of expressions
  pub data Operands : Type 0 where
    nil : Operands
    operand : Expression → Operands → Operands

-- the scale of a result (6.12): the larger one; for a product the sum, for a quotient the dividend's
abbrev pub scale_after : Operator → ℕ → ℕ → ℕ
scale_after Add sa sb = max sa sb
scale_after Subtract sa sb = max sa sb
scale_after Multiply sa sb = sa + sb
scale_after Divide sa sb = sa

-- the scale of a kind's numbers (4.4), 0 of other kinds
abbrev pub kind_scale : Kind → ℕ
kind_scale (kind.Number s) = s
kind_scale kind.Date = 0
kind_scale kind.Text = 0

-- the scale of an expression, 0 where it is no number; results of a choice are brought to one scale (6.9, 9.3)
abbrev pub scale_of : Expression → ℕ
scale_of null = 0
scale_of (number v s) = s
scale_of (date d) = 0
scale_of (text t) = 0
scale_of (column i ty) = type_scale ty
scale_of (arithmetic operator a b) = scale_after operator (scale_of a) (scale_of b)
scale_of (negative a) = scale_of a
scale_of (extract field a) = 0
scale_of (brought a s) = s
scale_of (choice c a b) = max (scale_of a) (scale_of b)
scale_of (given w k most v) = kind_scale k
scale_of (cell i ty most) = type_scale ty

-- x BETWEEN a AND b is x >= a AND x <= b (8.3)
abbrev pub between : Expression → Expression → Expression → Condition
between x a b = both (comparison GreaterOrEqual x a) (comparison LessOrEqual x b)

-- one or more expressions
pub data Expressions : Type 0 where
  last : Expression → Expressions
  more : Expression → Expressions → Expressions

-- the branches of a CASE
pub data Choices : Type 0 where
  otherwise : Expression → Choices
  when : Condition → Expression → Choices → Choices

-- the largest scale of the results
abbrev pub largest_result : Choices → ℕ
largest_result (otherwise e) = scale_of e
largest_result (when c e rest) = max (scale_of e) (largest_result rest)

-- x IN (v1, .., vn) is x = v1 OR .. OR x = vn (8.4)
abbrev pub among : Expression → Expressions → Condition
among x (last v) = comparison Equal x v
among x (more v vs) = either (comparison Equal x v) (among x vs)

-- CASE WHEN c1 THEN r1 .. ELSE r END: the first result whose condition is true, brought once to a scale (6.9)
abbrev pub cases : ℕ → Choices → Expression
cases s (otherwise e) = brought e s
cases s (when c e rest) = choice c (brought e s) (cases s rest)

-- and that scale is the largest of the results
abbrev pub case : Choices → Expression
case choices = cases (largest_result choices) choices

-- e IS NOT NULL (8.6)
abbrev pub is_there : Expression → Condition
is_there e = negation_of (predicate IsNull e)

-- COALESCE(a, b, ..) is CASE WHEN a IS NOT NULL THEN a ELSE COALESCE(b, ..) END, of one argument that argument (6.9)
abbrev pub coalesced : Expressions → Choices
coalesced (last e) = otherwise e
coalesced (more e es) = when (is_there e) e (coalesced es)

-- NULLIF(a, b) is CASE WHEN a = b THEN NULL ELSE a END (6.9); null has no scale that a could be brought to. Of more arguments, which the grammar
-- doesn't have, it is null where the first is among the others, and of one what COALESCE is.
abbrev pub unless_among : Expressions → Expression
unless_among (last a) = brought a (scale_of a)
unless_among (more a others) = choice (among a others) null a

-- a function of its arguments (6.9)
abbrev pub called : Function → Expressions → Expression
called Coalesce arguments = case (coalesced arguments)
called NullIf arguments = unless_among arguments
