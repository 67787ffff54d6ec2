-- Values in the ranges of their columns' types, as far as magnitudes tell (ISO/IEC 9075:1992, 4.4).
use Rattle.std.specs.Prelude.{ℕ, List, slice_get}
use Rattle.qw_types.specs.Kind.{IsOfKind, type_kind}
use Rattle.qw_types.specs.Value.{IsSized}
use Rattle.qw_types.specs.declared.value.Ty.{Ty}
use Rattle.qw_types.specs.declared.value.Val.{Val}
use Rattle.qw_scalar.specs.Evaluation.{cell_of}
use Rattle.qw_scalar.specs.Typing.{IsWithin}
use Rattle.qw_raise.specs.Raise.{type_magnitude}

-- null, or a value of the type's kind and no larger than the type's numbers are
abbrev pub Fits : Ty → Val → Type 0
Fits ty value = IsOfKind (type_kind ty) value × IsWithin (type_magnitude ty) value

-- a column's value in a row is in its type's range
abbrev pub IsInRange : List Val → ℕ → Ty → Type 0
IsInRange row i ty = Fits ty (cell_of (slice_get row i))

-- a column that an expression names is of a size that types may have
abbrev pub IsSizedColumn : ℕ → Ty → Type 0
IsSizedColumn i ty = IsSized ty
