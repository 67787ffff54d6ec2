-- What dynamic parameters and subqueries give (ISO/IEC 9075:1992, 6.2, 7.11), filled into expressions and conditions before these are evaluated: each
-- gives the same at every row, so a row and an expression that is filled in are all that evaluation needs.
use Rattle.std.specs.Prelude.{ℕ, List, [], ◌∷◌, Option, Some, None, slice_get}
use Rattle.std.specs.List.{AllByRecursion}
use Rattle.qw_types.specs.declared.value.Val.{Val}
use Rattle.qw_types.specs.declared.value.Val.TheVariants as val
use Rattle.qw_scalar.specs.Expression.{Expression, Condition, Operands, Whence, parameter, single, null, number, date, text, column, arithmetic, negative, extract, brought, choice, given, cell, comparison, predicate, both, either, negation_of, is, found, nil, operand}
use Rattle.qw_scalar.specs.Evaluation.{cell_of}
use Rattle.qw_scalar.specs.Typing.{AreCells, MayBeGiven}

-- the rows of each subquery, and the value of each parameter, by their numbers
pub record Given : Type 0 where
  pub inner : List (List (List Val))
  pub values : List Val

-- none of what isn't there only makes this total
abbrev pub rows_at : Option (List (List Val)) → List (List Val)
rows_at None = []
rows_at (Some rows) = rows

abbrev pub inner_rows : Given → ℕ → List (List Val)
inner_rows g n = rows_at (slice_get g.inner n)

-- the value of a scalar subquery (7.11): of its one row, and null over no row. More rows are an exception of the query round it, so that what is
-- said of them here only makes this total.
abbrev pub first_value : List (List Val) → Val
first_value [] = val.Null
first_value ([] ∷ rows) = val.Null
first_value ((v ∷ vs) ∷ rows) = v

-- what a parameter or a scalar subquery gives
abbrev pub filled : Given → Whence → Val
filled g (parameter n) = cell_of (slice_get g.values n)
filled g (single n) = first_value (inner_rows g n)

-- expressions and conditions with what is given filled in; nothing else of them changes
abbrev mutual
  pub closed : Given → Expression → Expression
  closed g null = null
  closed g (number v s) = number v s
  closed g (date d) = date d
  closed g (text t) = text t
  closed g (column i ty) = column i ty
  closed g (arithmetic operator a b) = arithmetic operator (closed g a) (closed g b)
  closed g (negative a) = negative (closed g a)
  closed g (extract field a) = extract field (closed g a)
  closed g (brought a s) = brought (closed g a) s
  closed g (choice c a b) = choice (closed_in g c) (closed g a) (closed g b)
  closed g (given w k most v) = given w k most (filled g w)
  closed g (cell i ty most) = cell i ty most

  pub closed_in : Given → Condition → Condition
  closed_in g (comparison op a b) = comparison op (closed g a) (closed g b)
  closed_in g (predicate p a) = predicate p (closed g a)
  closed_in g (both c d) = both (closed_in g c) (closed_in g d)
  closed_in g (either c d) = either (closed_in g c) (closed_in g d)
  closed_in g (negation_of c) = negation_of (closed_in g c)
  closed_in g (is c t) = is (closed_in g c) t
  closed_in g (found n asked keys kinds rows) = found n (closed_all g asked) (closed_all g keys) kinds (inner_rows g n)

  pub closed_all : Given → Operands → Operands
  closed_all g nil = nil
  closed_all g (operand e es) = operand (closed g e) (closed_all g es)

-- what is given may be filled in: of the kinds and magnitudes that an expression tells
abbrev mutual
  pub Fills : Given → Expression → Type 0
  Fills g null = Unit {0}
  Fills g (number v s) = Unit {0}
  Fills g (date d) = Unit {0}
  Fills g (text t) = Unit {0}
  Fills g (column i ty) = Unit {0}
  Fills g (arithmetic operator a b) = Fills g a × Fills g b
  Fills g (negative a) = Fills g a
  Fills g (extract field a) = Fills g a
  Fills g (brought a s) = Fills g a
  Fills g (choice c a b) = FillsIn g c × (Fills g a × Fills g b)
  Fills g (given w k most v) = MayBeGiven k most (filled g w)
  Fills g (cell i ty most) = Unit {0}

  pub FillsIn : Given → Condition → Type 0
  FillsIn g (comparison op a b) = Fills g a × Fills g b
  FillsIn g (predicate p a) = Fills g a
  FillsIn g (both c d) = FillsIn g c × FillsIn g d
  FillsIn g (either c d) = FillsIn g c × FillsIn g d
  FillsIn g (negation_of c) = FillsIn g c
  FillsIn g (is c t) = FillsIn g c
  FillsIn g (found n asked keys kinds rows) = (FillsAll g asked × FillsAll g keys) × AllByRecursion (AreCells kinds) (inner_rows g n)

  pub FillsAll : Given → Operands → Type 0
  FillsAll g nil = Unit {0}
  FillsAll g (operand e es) = Fills g e × FillsAll g es
