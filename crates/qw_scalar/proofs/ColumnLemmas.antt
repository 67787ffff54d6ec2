-- The columns that expressions name.
use Rattle.std.proofs.Common.{ℕ}
use Rattle.qw_types.specs.declared.value.Ty.{Ty}
use Rattle.qw_scalar.specs.Columns.{HasColumns, HaveColumns, OperandsHave}
use Rattle.qw_scalar.specs.Expression.{Expression, Condition, null, number, date, text, column, arithmetic, negative, extract, brought, choice, given, cell, comparison, predicate, both, either, negation_of, is, found, Operands, nil, operand}

-- what holds of each column may be replaced by what follows from it
mutual
  pub columns_more : (Holds More : ℕ → Ty → Type 0) → ((i : ℕ) (ty : Ty) → Holds i ty → More i ty) → (e : Expression) → HasColumns Holds e → HasColumns More e
  columns_more Holds More more null h = h
  columns_more Holds More more (number v s) h = h
  columns_more Holds More more (date d) h = h
  columns_more Holds More more (text t) h = h
  columns_more Holds More more (column i ty) h = more i ty h
  columns_more Holds More more (arithmetic operator a b) h = (columns_more Holds More more a h.0, columns_more Holds More more b h.1)
  columns_more Holds More more (negative a) h = columns_more Holds More more a h
  columns_more Holds More more (extract field a) h = columns_more Holds More more a h
  columns_more Holds More more (brought a s) h = columns_more Holds More more a h
  columns_more Holds More more (choice c a b) h =
      (conditions_more Holds More more c h.0, (columns_more Holds More more a h.1.0, columns_more Holds More more b h.1.1))
  columns_more Holds More more (given w k most v) h = h
  columns_more Holds More more (cell i ty most) h = more i ty h

  pub conditions_more : (Holds More : ℕ → Ty → Type 0) → ((i : ℕ) (ty : Ty) → Holds i ty → More i ty) → (c : Condition) → HaveColumns Holds c → HaveColumns More c
  conditions_more Holds More more (comparison op a b) h = (columns_more Holds More more a h.0, columns_more Holds More more b h.1)
  conditions_more Holds More more (predicate p a) h = columns_more Holds More more a h
  conditions_more Holds More more (both c d) h = (conditions_more Holds More more c h.0, conditions_more Holds More more d h.1)
  conditions_more Holds More more (either c d) h = (conditions_more Holds More more c h.0, conditions_more Holds More more d h.1)
  conditions_more Holds More more (negation_of c) h = conditions_more Holds More more c h
  conditions_more Holds More more (is c t) h = conditions_more Holds More more c h
  conditions_more Holds More more (found n asked keys kinds rows) h = (operands_more Holds More more asked h.0, operands_more Holds More more keys h.1)

  pub operands_more : (Holds More : ℕ → Ty → Type 0) → ((i : ℕ) (ty : Ty) → Holds i ty → More i ty) → (es : Operands) → OperandsHave Holds es → OperandsHave More es
  operands_more Holds More more nil h = h
  operands_more Holds More more (operand e es) h = (columns_more Holds More more e h.0, operands_more Holds More more es h.1)
