-- Mirrors `src/test.rt`: which comparisons are one relation of two locals.
use Rattle.std.specs.Prelude.{ℕ, ◌==◌, ◌&&◌, Bool, true, false, Option, Some, None}
use Rattle.qw_types.specs.declared.kind.Kind.{Kind}
use Rattle.qw_types.specs.declared.kind.Kind.TheVariants as kind
use Rattle.qw_expr.specs.declared.operand.Operand.{Operand}

abbrev pub never_null : Option ℕ → Bool
never_null None = true
never_null (Some x) = false

abbrev pub are_words : Option Kind → (same_scale : Bool) → Bool
are_words None same_scale = false
are_words (Some (kind.Number s)) same_scale = same_scale
are_words (Some kind.Date) same_scale = true
are_words (Some kind.Text) same_scale = false

-- whether neither is null, and both are numbers of one scale or dates
abbrev pub is_one_relation : (left right : Operand) → Bool
is_one_relation left right = never_null left.cell.null && (never_null right.cell.null && are_words left.kind (left.scale == right.scale))
