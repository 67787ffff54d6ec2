-- Mirrors `numeral::greatest`.
use Rattle.std.specs.Prelude.{ℕ, ◌-◌, ◌^◌, Bool, if◌then◌else◌}
use Rattle.qw_types.specs.declared.value.Ty.{Ty}
use Rattle.qw_types.specs.declared.value.Ty.TheVariants as ty

-- the greatest magnitude of a type's negative numbers, or of the others
abbrev pub greatest : Ty → Bool → ℕ
greatest (ty.Decimal precision scale) negative = 10 ^ precision - 1
greatest _ negative = if negative then 2147483648 else 2147483647
