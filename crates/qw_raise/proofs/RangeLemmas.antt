-- Values of columns are in their types' ranges.
use Rattle.std.proofs.Common.{ℤ, pos, negsuc, ◌≤ℤ◌, ◌≤◌, ◌^◌, unsigned_abs, Bool, arith}
use Rattle.std.proofs.lemmas.Int.{ints}
use Rattle.qw_types.proofs.KindLemmas.{stored_of_kind}
use Rattle.qw_types.specs.Value.{IsOfTypeOrNull, IsSized}
use Rattle.qw_types.specs.declared.value.Ty.{Ty}
use Rattle.qw_types.specs.declared.value.Ty.TheVariants as ty
use Rattle.qw_types.specs.declared.value.Val.{Val}
use Rattle.qw_types.specs.declared.value.Val.TheVariants as val
use Rattle.qw_raise.specs.Raise.{type_magnitude}
use Rattle.qw_raise.specs.Range.{Fits}
use Rattle.qw_scalar.specs.Typing.{IsWithin}

integer_within : (v : ℤ) → negsuc 2147483647 ≤ℤ v → v ≤ℤ pos 2147483647 → unsigned_abs v ≤ 2 ^ 31
integer_within (pos m) least greatest = omega (arith, ints, greatest)
integer_within (negsuc m) least greatest = omega (arith, ints, least)

within_type : (type : Ty) (not_null : Bool) (v : Val) → IsOfTypeOrNull type not_null v → IsWithin (type_magnitude type) v
within_type type not_null val.Null of = tt
within_type type not_null (val.Date d) of = tt
within_type type not_null (val.Text t) of = tt
within_type ty.Integer not_null (val.Num v) of = integer_within v of.0 of.1
within_type (ty.Decimal precision scale) not_null (val.Num v) of = omega (arith, of)
within_type ty.Date not_null (val.Num v) of = absurd of
within_type (ty.Varchar limit) not_null (val.Num v) of = absurd of

pub column_fits : (type : Ty) (not_null : Bool) (v : Val) → IsSized type → IsOfTypeOrNull type not_null v → Fits type v
column_fits type not_null v sized of = (stored_of_kind type not_null v sized of, within_type type not_null v of)
