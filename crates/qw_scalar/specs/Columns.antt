-- The columns that an expression names, and the rows that have them (ISO/IEC 9075:1992, 4.8, 6.4).
use Rattle.std.specs.Prelude.{ℕ, List, slice_get}
use Rattle.qw_types.specs.Kind.{IsOfKind, type_kind}
use Rattle.qw_types.specs.declared.value.Ty.{Ty}
use Rattle.qw_types.specs.declared.value.Val.{Val}
use Rattle.qw_scalar.specs.Expression.{Expression, Condition, null, number, date, text, column, arithmetic, negative, extract, brought, choice, given, cell, comparison, predicate, both, either, negation_of, is, found, Operands, nil, operand}
use Rattle.qw_scalar.specs.Evaluation.{cell_of}

-- something holds of each column that an expression names, with the type that it names it with
abbrev mutual
  pub HasColumns : (ℕ → Ty → Type 0) → Expression → Type 0
  HasColumns Holds null = Unit {0}
  HasColumns Holds (number v s) = Unit {0}
  HasColumns Holds (date d) = Unit {0}
  HasColumns Holds (text t) = Unit {0}
  HasColumns Holds (column i ty) = Holds i ty
  HasColumns Holds (arithmetic operator a b) = HasColumns Holds a × HasColumns Holds b
  HasColumns Holds (negative a) = HasColumns Holds a
  HasColumns Holds (extract field a) = HasColumns Holds a
  HasColumns Holds (brought a s) = HasColumns Holds a
  HasColumns Holds (choice c a b) = HaveColumns Holds c × (HasColumns Holds a × HasColumns Holds b)
  HasColumns Holds (given w k most v) = Unit {0}
  HasColumns Holds (cell i ty most) = Holds i ty

  pub HaveColumns : (ℕ → Ty → Type 0) → Condition → Type 0
  HaveColumns Holds (comparison op a b) = HasColumns Holds a × HasColumns Holds b
  HaveColumns Holds (predicate p a) = HasColumns Holds a
  HaveColumns Holds (both c d) = HaveColumns Holds c × HaveColumns Holds d
  HaveColumns Holds (either c d) = HaveColumns Holds c × HaveColumns Holds d
  HaveColumns Holds (negation_of c) = HaveColumns Holds c
  HaveColumns Holds (is c t) = HaveColumns Holds c
  HaveColumns Holds (found n asked keys kinds rows) = OperandsHave Holds asked × OperandsHave Holds keys

  pub OperandsHave : (ℕ → Ty → Type 0) → Operands → Type 0
  OperandsHave Holds nil = Unit {0}
  OperandsHave Holds (operand e es) = HasColumns Holds e × OperandsHave Holds es

-- a column's value in a row is of the type's kind
abbrev pub HoldsIn : List Val → ℕ → Ty → Type 0
HoldsIn row i ty = IsOfKind (type_kind ty) (cell_of (slice_get row i))
