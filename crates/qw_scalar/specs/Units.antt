-- The units by which the instructions of an expression are bounded at a row: the octets of the texts of the comparison, among all that it
-- makes, that compares most; of LIKE it is the product of the places of its texts. It is the greatest and not the sum, since no piece of
-- code takes more at a row than its own size times one more than what it compares, and each comparison is a piece of its own; so an operand
-- counts once however often an abbreviation names it (ISO/IEC 9075:1992, 6.9, 8.3 to 8.5).
use Rattle.std.specs.Prelude.{ℕ, ◌+◌, ◌*◌, max, List, [], ◌∷◌, length, Result, Ok}
use Rattle.qw_types.specs.declared.code.Code.{Code}
use Rattle.qw_types.specs.declared.value.Val.{Val}
use Rattle.qw_types.specs.declared.value.Val.TheVariants as val
use Rattle.qw_scalar.specs.declared.comparison.Comparison.{Comparison}
use Rattle.qw_scalar.specs.declared.comparison.Comparison.TheVariants.{Like, NotLike}
use Rattle.qw_scalar.specs.Expression.{Expression, Condition, null, number, date, text, column, arithmetic, negative, extract, brought, choice, given, cell, comparison, predicate, both, either, negation_of, is, found, Operands, nil, operand}
use Rattle.qw_scalar.specs.Evaluation.{Environment, value_of}

-- what two texts take: their octets; under LIKE, each place of the text, its end too, may be tried with each of the pattern
abbrev pub octets_for : Comparison → List ℕ → List ℕ → ℕ
octets_for Like a b = (length a + 1) * (length b + 1)
octets_for NotLike a b = (length a + 1) * (length b + 1)
octets_for _ a b = length a + length b

-- of values that aren't both texts none are compared
abbrev pub octets_in : Comparison → Val → Val → ℕ
octets_in op (val.Text a) (val.Text b) = octets_for op a b
octets_in _ _ _ = 0

abbrev pub octets_of : Comparison → Result Val Code → Result Val Code → ℕ
octets_of op (Ok a) (Ok b) = octets_in op a b
octets_of _ _ _ = 0

-- Of EXISTS and IN over the rows of a subquery it is what the keys and what is asked compare themselves: how rows are found isn't counted here.
abbrev mutual
  pub units : Expression → Environment → ℕ
  units null env = 0
  units (number v s) env = 0
  units (date d) env = 0
  units (text t) env = 0
  units (column i ty) env = 0
  units (arithmetic operator a b) env = max (units a env) (units b env)
  units (negative a) env = units a env
  units (extract field a) env = units a env
  units (brought a s) env = units a env
  units (choice c a b) env = max (units_of c env) (max (units a env) (units b env))
  units (given w k most v) env = 0
  units (cell i ty most) env = 0

  pub units_of : Condition → Environment → ℕ
  units_of (comparison op a b) env = max (max (units a env) (units b env)) (octets_of op (value_of a env) (value_of b env))
  units_of (predicate p a) env = units a env
  units_of (both c d) env = max (units_of c env) (units_of d env)
  units_of (either c d) env = max (units_of c env) (units_of d env)
  units_of (negation_of c) env = units_of c env
  units_of (is c t) env = units_of c env
  units_of (found n asked keys kinds rows) env = max (operands_units asked env) (operands_units keys env)

  pub operands_units : Operands → Environment → ℕ
  operands_units nil env = 0
  operands_units (operand e es) env = max (units e env) (operands_units es env)

-- the greatest of what elements have, 0 of none
abbrev pub most_by : {A : Type 0} → (A → ℕ) → List A → ℕ
most_by f [] = 0
most_by f (x ∷ xs) = max (f x) (most_by f xs)

-- of all conjuncts, and of all items of a select list
abbrev pub units_of_all : List Condition → Environment → ℕ
units_of_all conjuncts env = most_by (λ (c : Condition). units_of c env) conjuncts

abbrev pub units_of_items : List Expression → Environment → ℕ
units_of_items items env = most_by (λ (e : Expression). units e env) items
