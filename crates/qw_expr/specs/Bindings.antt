-- What is known of columns and literals that are in locals, and which expressions take no others.
use Rattle.std.specs.Prelude.{◌≡◌, ◌⊎◌, ℕ, List, [], ◌∷◌}
use Rattle.std.specs.List.{AllByRecursion}
use Rattle.qw_scalar.specs.Expression.{Expression, Condition, null, number, date, text, column, arithmetic, negative, extract, brought, choice, given, cell, comparison, predicate, both, either, negation_of, is, found, Operands, nil, operand, scale_of}
use Rattle.qw_scalar.specs.Typing.{kind_of}
use Rattle.qw_expr.specs.declared.known.Leaf.{Leaf}
use Rattle.qw_expr.specs.declared.known.Leaf.TheVariants as leaf
use Rattle.qw_expr.specs.declared.known.Binding.{Binding}
use Rattle.qw_expr.specs.declared.operand.Operand.{Operand}
use Rattle.qw_expr.specs.Computes.{Known, AreBelow}

abbrev pub named : Leaf → Expression
named (leaf.Column i ty) = column i ty
named (leaf.Number v s) = number v s
named (leaf.Date d) = date d
named (leaf.Text t) = text t

abbrev pub known_of : List Binding → List Known
known_of [] = []
known_of (b ∷ bindings) = record { expression = named b.leaf; operand = b.operand } ∷ known_of bindings

-- one of a list
abbrev pub IsAmong : Known → List Known → Type 0
IsAmong k [] = ⊥
IsAmong k (first ∷ known) = (k ≡ first) ⊎ IsAmong k known

abbrev pub Knows : List Known → Expression → Type 0
Knows known e = (o : Operand) × IsAmong (record { expression = e; operand = o }) known

-- every column and every literal of an expression is known, but for NULL; what is filled in before evaluation is neither
abbrev mutual
  pub TakesKnown : List Known → Expression → Type 0
  TakesKnown known null = Unit {0}
  TakesKnown known (number v s) = Knows known (number v s)
  TakesKnown known (date d) = Knows known (date d)
  TakesKnown known (text t) = Knows known (text t)
  TakesKnown known (column i ty) = Knows known (column i ty)
  TakesKnown known (arithmetic operator a b) = TakesKnown known a × TakesKnown known b
  TakesKnown known (negative a) = TakesKnown known a
  TakesKnown known (extract field a) = TakesKnown known a
  TakesKnown known (brought a s) = TakesKnown known a
  TakesKnown known (choice c a b) = TakeKnown known c × (TakesKnown known a × TakesKnown known b)
  TakesKnown known (given w k most v) = Unit {0}
  TakesKnown known (cell i ty most) = Knows known (column i ty)

  pub TakeKnown : List Known → Condition → Type 0
  TakeKnown known (comparison op a b) = TakesKnown known a × TakesKnown known b
  TakeKnown known (predicate p a) = TakesKnown known a
  TakeKnown known (both c d) = TakeKnown known c × TakeKnown known d
  TakeKnown known (either c d) = TakeKnown known c × TakeKnown known d
  TakeKnown known (negation_of c) = TakeKnown known c
  TakeKnown known (is c t) = TakeKnown known c
  TakeKnown known (found n asked keys kinds rows) = OperandsTakeKnown known asked × OperandsTakeKnown known keys

  pub OperandsTakeKnown : List Known → Operands → Type 0
  OperandsTakeKnown known nil = Unit {0}
  OperandsTakeKnown known (operand e es) = TakesKnown known e × OperandsTakeKnown known es

-- what is known is in locals below one, and its operands say its kinds and scales
abbrev pub IsServed : ℕ → List Known → Type 0
IsServed n known = AreBelow n known × AllByRecursion (λ (k : Known). (k.operand.kind ≡ kind_of k.expression) × (k.operand.scale ≡ scale_of k.expression)) known
