-- How the operand of a literal looks whose word is in a local.
use Rattle.std.specs.Prelude.{ℕ, ℤ, unsigned_abs, Some, None}
use Rattle.qw_types.specs.declared.kind.Kind.TheVariants as kind
use Rattle.qw_expr.specs.declared.operand.Operand.{Operand}

-- a number of a scale: it is never null, and no larger than it is
abbrev pub number_operand : (x : ℕ) → (v : ℤ) → (scale : ℕ) → Operand
number_operand x v scale = record { cell = record { value = x; length = x; null = None }; kind = Some (kind.Number scale); scale = scale; most = unsigned_abs v }

-- a date, as year * 10000 + month * 100 + day
abbrev pub date_operand : (x : ℕ) → Operand
date_operand x = record { cell = record { value = x; length = x; null = None }; kind = Some kind.Date; scale = 0; most = 0 }
