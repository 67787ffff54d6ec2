-- The entries of FROM whose columns expressions name. Column c of entry e is number 64 * e + c.
use Rattle.std.specs.Prelude.{ℕ, ◌/◌, Bool, true, not, ◌&&◌, nat_eq, List, [], ◌∷◌, ◌++◌}
use Rattle.std.specs.List.{list_any}
use Rattle.qw_scalar.specs.Expression.{Expression, Condition, null, number, date, text, column, arithmetic, negative, extract, brought, choice, given, cell, comparison, predicate, both, either, negation_of, is, found, Operands, nil, operand}
use Rattle.qw_algebra.specs.Node.{Node, scan, filter, join, project}

-- the entry that a column is of
abbrev pub owner : ℕ → ℕ
owner i = i / 64

-- one of these
abbrev pub is_of : (entries : List ℕ) → ℕ → Bool
is_of entries i = list_any (λ entry. nat_eq entry (owner i)) entries

-- the entries below a plan, from left to right
abbrev pub entries_below : Node → List ℕ
entries_below (scan entry table) = entry ∷ []
entries_below (filter conjuncts below) = entries_below below
entries_below (join outer left right on keys) = entries_below left ++ entries_below right
entries_below (project below items) = entries_below below

-- whether a column is one of a plan's rows
abbrev pub owns : Node → ℕ → Bool
owns node i = is_of (entries_below node) i

-- an expression or a condition names only columns that pass a test
abbrev mutual
  pub names_only : (ℕ → Bool) → Expression → Bool
  names_only test null = true
  names_only test (number v s) = true
  names_only test (date d) = true
  names_only test (text t) = true
  names_only test (column i ty) = test i
  names_only test (arithmetic operator a b) = names_only test a && names_only test b
  names_only test (negative a) = names_only test a
  names_only test (extract field a) = names_only test a
  names_only test (brought a s) = names_only test a
  names_only test (choice c a b) = condition_names_only test c && (names_only test a && names_only test b)
  names_only test (given w k most v) = true
  names_only test (cell i ty most) = test i

  pub condition_names_only : (ℕ → Bool) → Condition → Bool
  condition_names_only test (comparison op a b) = names_only test a && names_only test b
  condition_names_only test (predicate p a) = names_only test a
  condition_names_only test (both c d) = condition_names_only test c && condition_names_only test d
  condition_names_only test (either c d) = condition_names_only test c && condition_names_only test d
  condition_names_only test (negation_of c) = condition_names_only test c
  condition_names_only test (is c t) = condition_names_only test c
  condition_names_only test (found n asked keys kinds rows) = operands_name_only test asked && operands_name_only test keys

  pub operands_name_only : (ℕ → Bool) → Operands → Bool
  operands_name_only test nil = true
  operands_name_only test (operand e es) = names_only test e && operands_name_only test es

-- they name a column at all
abbrev pub names_column : Expression → Bool
names_column e = not (names_only (is_of []) e)

abbrev pub condition_names_column : Condition → Bool
condition_names_column c = not (condition_names_only (is_of []) c)
